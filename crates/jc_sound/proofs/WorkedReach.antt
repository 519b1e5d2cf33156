-- The worked examples of reach: a hidden class that an item opens to a client, and one that none does. And a client with a constant that meets no collision.
use Rattle.std.proofs.Common.{◌≡◌, inl, inr, true, false, List, [], ◌∷◌, refl, Some, None, codes, subst}
use Rattle.std.specs.List.{Contains}
use Rattle.std.proofs.lemmas.List.Elements.{All-from_recursion, All-contains, All-nil}
use Rattle.jc_facts.specs.declared.class_facts.ClassFacts.{ClassFacts}
use Rattle.jc_facts.specs.declared.client.ClientClass.{ClientClass}
use Rattle.jc_facts.specs.declared.client.Item.{Item}
use Rattle.jc_facts.specs.declared.client.Item.TheVariants as item
use Rattle.jc_facts.specs.declared.client.Place.TheVariants.{Other}
use Rattle.jc_facts.specs.declared.key.Key.{Key}
use Rattle.jc_facts.specs.declared.act.Act.TheVariants.{InvokeVirtual, PutStatic}
use Rattle.jc_facts.specs.Names.{Bytes, object_name}
use Rattle.jc_facts.specs.world.World.{World, DeclaredMember, with_clients}
use Rattle.jc_facts.specs.world.Lookup.{field_found}
use Rattle.jc_facts.specs.client.Outcome.{outcome}
use Rattle.jc_facts.specs.client.Valid.{facts_of}
use Rattle.jc_promises.specs.client.Meets.{ConstantHits, may_name}
use Rattle.jc_promises.specs.client.Reach.{is_opening, opens, class_in_reach}
use Rattle.jc_sound.proofs.Examples.{computes, init, key, member, a_class, extending, public_interface, over}
use Rattle.jc_sound.proofs.WorkedClients.{p_A, U}

abbrev p_S : Bytes
p_S = codes "p/S"

abbrev p_T : Bytes
p_T = codes "p/T"

-- the package-private class p/T
abbrev hidden : ClassFacts
hidden = a_class p_T 0x20 (Some object_name) [] [] (init 0 ∷ [])

-- w0/U calls this method on itself
abbrev calls : Key → Item
calls k = item.Access InvokeVirtual U k (Some U) Other

-- one that gives an object of p/T, and one that takes one
abbrev gives : Key
gives = key (codes "f") (codes "()Lp/T;")

abbrev takes : Key
takes = key (codes "g") (codes "(Lp/T;)V")

-- ---- a member that a client has from above itself

-- w0/U extends p/A, and the package-private superclass p/S of that declares both
abbrev through_a_class : World
through_a_class =
    let declared = init 1 ∷ member (codes "f") (codes "()Lp/T;") 1 ∷ member (codes "g") (codes "(Lp/T;)V") 1 ∷ [] in
    with_clients (over (extending p_A p_S [] [] ∷ a_class p_S 0x20 (Some object_name) [] [] declared ∷ hidden ∷ [])) (extending U p_A [] [] ∷ [])

-- the calls name a client, and what they find is of a class that w0/U can't name
class_opens_what_it_gives : (outcome through_a_class U (calls gives) ≡ None) × (is_opening through_a_class U (calls gives) ≡ true) × (opens through_a_class U p_T (calls gives) ≡ true)
unfolding computes
class_opens_what_it_gives = (refl, refl, refl)

class_opens_what_it_takes : (outcome through_a_class U (calls takes) ≡ None) × (opens through_a_class U p_T (calls takes) ≡ true) × (opens through_a_class U p_A (calls takes) ≡ false)
unfolding computes
class_opens_what_it_takes = (refl, refl, refl)

-- w0/U with these items
abbrev user : List Item → ClientClass
user is = record { facts = extending U p_A [] []; items = is }

-- without the call the class isn't in reach
in_reach_by_the_call : (class_in_reach through_a_class U (user (calls gives ∷ []) ∷ []) p_T ≡ true) × (class_in_reach through_a_class U (user [] ∷ []) p_T ≡ false)
unfolding computes
in_reach_by_the_call = (refl, refl)

-- the same, where p/S is a package-private interface that p/A names
abbrev through_an_interface : World
through_an_interface =
    let declared = member (codes "f") (codes "()Lp/T;") 0x401 ∷ [] in
    with_clients (over (a_class p_A 0x421 (Some object_name) (p_S ∷ []) [] (init 1 ∷ []) ∷ a_class p_S 0x600 (Some object_name) [] [] declared ∷ hidden ∷ [])) (extending U p_A [] [] ∷ [])

interface_opens_nothing : (outcome through_an_interface U (calls gives) ≡ None) × (is_opening through_an_interface U (calls gives) ≡ false)
unfolding computes
interface_opens_nothing = (refl, refl)

-- ---- a constant that no client puts

abbrev p_I : Bytes
p_I = codes "p/I"

abbrev J : Bytes
J = codes "w0/J"

abbrev X : Key
X = key (codes "X") (codes "I")

-- w0/U implements the library's interface p/I, and the client interface w0/J with the constant
abbrev constants : List ClientClass
constants =
    record { facts = a_class U 0x21 (Some object_name) (p_I ∷ J ∷ []) [] (init 1 ∷ []); items = [] }
    ∷ record { facts = public_interface J [] (member (codes "X") (codes "I") 0x19 ∷ []) []; items = [] }
    ∷ []

abbrev over_I : World
over_I = with_clients (over (public_interface p_I [] [] [] ∷ [])) (facts_of constants)

abbrev found : DeclaredMember
found = record { owner = J; member = member (codes "X") (codes "I") 0x19 }

constant_is_found : (may_name over_I U p_I ≡ true) × (field_found over_I U X ≡ Some found)
unfolding computes
constant_is_found = (refl, refl)

no_items : (c : ClientClass) → Contains constants c → c.items ≡ []
no_items c h = All-contains (λ (d : ClientClass). d.items ≡ []) constants c (All-from_recursion (λ (d : ClientClass). d.items ≡ []) constants (refl, (refl, tt))) h

-- so a constant that p/I gains takes nobody's place
constant_that_nobody_puts : ConstantHits over_I constants U X found → ⊥
unfolding computes
constant_that_nobody_puts (inl h) = absurd (cc)
constant_that_nobody_puts (inr (c, known, named, (r, place, puts))) = All-contains (λ (i : Item). ⊥) [] _ (All-nil (λ (i : Item). ⊥)) (subst (λ (is : List Item). Contains is (item.Access PutStatic U X r place)) (no_items c known) puts)
