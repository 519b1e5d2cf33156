-- Worked examples of superclasses that clients can't name, where values of two classes meet.
use Rattle.std.proofs.Common.{◌≡◌, ℕ, true, false, List, [], ◌∷◌, refl, Some, None, codes}
use Rattle.jc_facts.specs.declared.class_facts.ClassFacts.{ClassFacts}
use Rattle.jc_facts.specs.declared.client.ClientClass.{ClientClass}
use Rattle.jc_facts.specs.declared.client.Item.{Item}
use Rattle.jc_facts.specs.declared.client.Item.TheVariants as item
use Rattle.jc_facts.specs.declared.link_error.LinkError.TheVariants.{VerifyError, NoClassDefFoundError}
use Rattle.jc_facts.specs.Names.{Bytes, object_name}
use Rattle.jc_facts.specs.client.Outcome.{outcome}
use Rattle.jc_facts.specs.client.Seats.{seat}
use Rattle.jc_facts.specs.client.Valid.{facts_of}
use Rattle.jc_facts.specs.world.World.{World, with_clients}
use Rattle.jc_promises.specs.client.Reach.{is_in_reach}
use Rattle.jc_promises.specs.rule.Findings.{finding_at}
use Rattle.jc_sound.proofs.Examples.{computes, init, member, a_class, extending, over, on_class, on_target, finding, exposed_finding}
use Rattle.jc_facts.specs.declared.act.Act.TheVariants.{ClassRef}
use Rattle.jc_calls.specs.Joins.{is_join, join_lost}
use Rattle.jc_calls.specs.JoinsKept.{meet_at}

-- what these compute with
unfoldable meetings : ℕ
unfolding computes join_lost
meetings = 0

abbrev p_A : Bytes
p_A = codes "p/A"

abbrev p_B : Bytes
p_B = codes "p/B"

abbrev p_S : Bytes
p_S = codes "p/S"

abbrev Base : Bytes
Base = codes "p/Base"

abbrev Top : Bytes
Top = codes "p/Top"

-- public classes below these, and package-private ones
abbrev public : Bytes → Bytes → ClassFacts
public x above = extending x above [] []

abbrev hidden : Bytes → Bytes → ClassFacts
hidden x above = a_class x 0x20 (Some above) [] [] (init 0 ∷ [])

-- p/A below the package-private p/Base, and p/B below this class
abbrev pair_below : Bytes → World
pair_below above = over (hidden Base object_name ∷ public p_A Base ∷ public p_B above ∷ [])

abbrev before : World
before = pair_below Base

abbrev after : World
after = pair_below object_name

-- ---- lines

-- p/B leaves p/Base, where its values met those of p/A
one_leaves : (join_lost before after p_B Base ≡ true) × (join_lost before after p_A Base ≡ false)
unfolding meetings
one_leaves = (refl, refl)

-- with p/Base both leave it
both_leave : let none = over (public p_A object_name ∷ public p_B object_name ∷ []) in (join_lost before none p_A Base ≡ true) × (join_lost before none p_B Base ≡ true)
unfolding meetings
both_leave = (refl, refl)

-- of two classes above both the first is where values meet, though p/B leaves them all
abbrev stairs : Bytes → World
stairs above = over (hidden Top object_name ∷ hidden Base Top ∷ public p_A Base ∷ public p_B above ∷ [])

first_of_two : (is_join (stairs Base) p_A p_B Base ≡ true) × (is_join (stairs Base) p_A p_B Top ≡ false) × (join_lost (stairs Base) (stairs object_name) p_B Base ≡ true) × (join_lost (stairs Base) (stairs object_name) p_B Top ≡ false)
    × (join_lost (stairs Base) (stairs Top) p_B Base ≡ true) × (join_lost (stairs Base) (stairs Top) p_B Top ≡ false)
unfolding meetings
first_of_two = (refl, refl, refl, refl, refl, refl)

-- the second is where they meet those of a third class
abbrev three : Bytes → World
three above = over (hidden Top object_name ∷ hidden Base Top ∷ public p_A Base ∷ public p_B above ∷ public p_S Top ∷ [])

third_class : (join_lost (three Base) (three object_name) p_B Base ≡ true) × (join_lost (three Base) (three object_name) p_B Top ≡ true)
unfolding meetings
third_class = (refl, refl)

-- the package-private p/S, of which p/A gives objects: so the clients of each seat hold values of it
abbrev giving : ℕ → Bytes → World
giving flags above = over (hidden Base object_name ∷ extending p_A Base [] (member (codes "give") (codes "()Lp/S;") flags ∷ []) ∷ hidden p_S above ∷ [])

exposed_class : join_lost (giving 9 Base) (giving 9 object_name) p_S Base ≡ true
unfolding meetings
exposed_class = refl

-- ---- clients of these

abbrev app_M : Bytes
app_M = codes "app/M"

-- what `c ? new A() : new B()` assigns
abbrev chooses : List Item
chooses = item.Assign p_A Base ∷ item.Assign p_B Base ∷ []

abbrev client : List ClientClass
client = record { facts = public app_M object_name; items = chooses } ∷ []

client_is_refused : let V = with_clients before (facts_of client) in let W = with_clients after (facts_of client) in
    (meet_at V before object_name p_B Base ≡ true) × (is_in_reach V app_M client (item.Assign p_B Base) ≡ false) × (outcome V app_M (item.Assign p_B Base) ≡ None)
    × (outcome W app_M (item.Assign p_B Base) ≡ Some VerifyError) × (outcome W app_M (item.Assign p_A Base) ≡ None)
unfolding meetings
client_is_refused = (refl, refl, refl, refl, refl)

-- arrays of both
array_is_refused : let V = with_clients before (facts_of client) in let W = with_clients after (facts_of client) in
    (outcome V app_M (item.Assign (codes "[Lp/B;") (codes "[Lp/Base;")) ≡ None) × (outcome W app_M (item.Assign (codes "[Lp/B;") (codes "[Lp/Base;")) ≡ Some VerifyError)
unfolding meetings
array_is_refused = (refl, refl)

-- a client below p/B, whose objects meet those of p/A
abbrev below_B : List ClientClass
below_B = record { facts = public app_M p_B; items = [] } ∷ []

own_subclass : let V = with_clients before (facts_of below_B) in (seat V app_M ≡ Some p_B) × (is_join V app_M p_A Base ≡ true) × (meet_at V before p_B app_M Base ≡ true)
    × (outcome V app_M (item.Assign app_M Base) ≡ None) × (outcome (with_clients after (facts_of below_B)) app_M (item.Assign app_M Base) ≡ Some VerifyError)
unfolding meetings
own_subclass = (refl, refl, refl, refl, refl)

-- ---- no lines

-- no other class has it
alone : join_lost (over (hidden Base object_name ∷ public p_B Base ∷ [])) (over (hidden Base object_name ∷ public p_B object_name ∷ [])) p_B Base ≡ false
unfolding meetings
alone = refl

-- nor one of which clients hold values
not_held : join_lost (over (hidden Base object_name ∷ hidden p_A Base ∷ public p_B Base ∷ [])) (over (hidden Base object_name ∷ hidden p_A Base ∷ public p_B object_name ∷ [])) p_B Base ≡ false
unfolding meetings
not_held = refl

-- another class comes between
between : join_lost before (over (hidden Base object_name ∷ public p_A Base ∷ hidden p_S Base ∷ public p_B p_S ∷ [])) p_B Base ≡ false
unfolding meetings
between = refl

-- all is assignable to an interface
became_interface : let now = over (a_class Base 0x600 (Some object_name) [] [] [] ∷ public p_A object_name ∷ public p_B object_name ∷ []) in
    (join_lost before now p_B Base ≡ false) × (outcome (with_clients now (facts_of client)) app_M (item.Assign p_B Base) ≡ None)
unfolding meetings
became_interface = (refl, refl)

-- the one stands above the other: the first class of both is that one
one_above : join_lost (over (hidden Base object_name ∷ public p_A Base ∷ public p_B p_A ∷ [])) (over (hidden Base object_name ∷ public p_A Base ∷ public p_B object_name ∷ [])) p_B Base ≡ false
unfolding meetings
one_above = refl

-- ---- what findings tell

-- p/A takes a p/Base: so clients hold values of it
abbrev taking : Bytes → World
taking above = over (hidden Base object_name ∷ extending p_A Base [] (member (codes "take") (codes "(Lp/Base;)V") 1 ∷ []) ∷ public p_B above ∷ [])

is_exposed_itself : (join_lost (taking Base) (taking object_name) p_B Base ≡ false) × (finding_at (taking Base) (taking object_name) (on_target 4 p_B Base) ≡ Some (exposed_finding 4 p_B (Some Base) object_name VerifyError))
unfolding meetings
is_exposed_itself = (refl, refl)

-- clients can name it
is_public : join_lost (over (public Base object_name ∷ public p_A Base ∷ public p_B Base ∷ [])) (over (public Base object_name ∷ public p_A Base ∷ public p_B object_name ∷ [])) p_B Base ≡ false
unfolding meetings
is_public = refl

-- the class itself is gone
class_is_gone : let now = over (hidden Base object_name ∷ public p_A Base ∷ []) in (join_lost before now p_B Base ≡ false) × (finding_at before now (on_class 1 p_B) ≡ Some (finding 1 p_B ClassRef NoClassDefFoundError))
unfolding meetings
class_is_gone = (refl, refl)

-- p/S, of which p/A gives objects, is gone: findings tell of the superclasses that clients can name, and a line of the other
gives_none : let now = over (hidden Base object_name ∷ extending p_A Base [] (member (codes "give") (codes "()Lp/S;") 9 ∷ []) ∷ []) in
    (join_lost (giving 9 Base) now p_S Base ≡ true) × (finding_at (giving 9 Base) now (on_target 4 p_S object_name) ≡ Some (exposed_finding 4 p_S (Some object_name) object_name VerifyError))
unfolding meetings
gives_none = (refl, refl)

-- so it is where it is there, and doesn't load: java/lang/Object is above it still
gives_unloadable : let now = over (hidden Base object_name ∷ extending p_A Base [] (member (codes "give") (codes "()Lp/S;") 9 ∷ []) ∷ record (hidden p_S object_name) { interfaces = codes "p/Gone" ∷ [] } ∷ []) in
    (join_lost (giving 9 Base) now p_S Base ≡ true) × (finding_at (giving 9 Base) now (on_target 4 p_S object_name) ≡ None)
unfolding meetings
gives_unloadable = (refl, refl)

-- ---- what isn't told

-- p/S is exposed to the clients below p/A, and p/T to those below p/B, where one hands a value to the other
abbrev p_T : Bytes
p_T = codes "p/T"

abbrev by_two : Bytes → World
by_two above = over (hidden Base object_name ∷ hidden p_S Base ∷ hidden p_T above ∷ extending p_A object_name [] (member (codes "give") (codes "()Lp/S;") 0x0c ∷ [])
    ∷ extending p_B object_name [] (member (codes "give") (codes "()Lp/T;") 0x0c ∷ []) ∷ [])

two_seats : (join_lost (by_two Base) (by_two object_name) p_T Base ≡ false) × (join_lost (giving 0x0c Base) (giving 0x0c object_name) p_S Base ≡ true)
unfolding meetings
two_seats = (refl, refl)
