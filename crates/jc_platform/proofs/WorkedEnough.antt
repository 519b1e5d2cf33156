-- Worked examples of parts of a platform: one that is enough for a client, and some that aren't.
use Rattle.std.proofs.Common.{◌≡◌, ℕ, Bool, true, false, ◌&&◌, List, [], ◌∷◌, ◌⊎◌, inl, inr, refl, sym, ◌∙◌, ap, subst, Option, Some, None, codes, lit<}
use Rattle.std.specs.Prelude.{All}
use Rattle.std.specs.List.{Contains, list_all}
use Rattle.std.proofs.lemmas.Bool.{or_cases, and_parts}
use Rattle.std.proofs.lemmas.List.Elements.{All-from_recursion, All-contains}
use Rattle.jc_facts.specs.declared.act.Act.TheVariants.{InvokeStatic, InvokeVirtual}
use Rattle.jc_facts.specs.declared.class_facts.ClassFacts.{ClassFacts}
use Rattle.jc_facts.specs.declared.client.ClientClass.{ClientClass}
use Rattle.jc_facts.specs.declared.client.Item.{Item}
use Rattle.jc_facts.specs.declared.client.Item.TheVariants as item
use Rattle.jc_facts.specs.declared.client.Place.TheVariants.{Other}
use Rattle.jc_facts.specs.declared.link_error.LinkError.TheVariants.{NoClassDefFoundError, VerifyError}
use Rattle.jc_facts.specs.Names.{Bytes, same, is_name_among, object_name}
use Rattle.jc_facts.specs.world.Types.{is_array_text}
use Rattle.jc_facts.specs.world.World.{World, OneModule, side, class_named, find_class}
use Rattle.jc_facts.specs.world.Search.{supers}
use Rattle.jc_facts.specs.client.Allowed.{is_allowed_name}
use Rattle.jc_facts.specs.client.Outcome.{outcome}
use Rattle.jc_facts.proofs.Same.{same_is}
use Rattle.jc_lemmas.proofs.Listed.{EachOf, here, there, list_all-each}
use Rattle.jc_sound.proofs.Examples.{computes, member, key, object, extending, plain, ascii}
use Rattle.jc_platform.specs.Enough.{over, text_among, item_among, IsEnough}

-- what these compute with
unfoldable asks : ℕ
unfolding computes text_among
asks = 0

-- ---- names in a list

-- what holds of each of the names holds of one that is among them
each_among : (P : Bytes → Type 0) (names : List Bytes) → EachOf P names → (x : Bytes) → is_name_among names x ≡ true → P x
each_among P [] h x e = absurd (let clash : false ≡ true = e in cc)
each_among P (n ∷ ns) h x e = go (or_cases (same n x) (is_name_among ns x) e) (each_among P ns h.1 x)
  where
    go : (same n x ≡ true) ⊎ (is_name_among ns x ≡ true) → (is_name_among ns x ≡ true → P x) → P x
    go (inl q) more = subst P (same_is n x q) h.0
    go (inr q) more = more q

-- the class, where it is there, names none but these above itself
abbrev leads_among : List Bytes → Option ClassFacts → Bool
leads_among names None = true
leads_among names (Some c) = list_all (is_name_among names) (supers c)

closed_by : (V : World) (names : List Bytes) → EachOf (λ n. leads_among names (find_class V n) ≡ true) names
    → (x : Bytes) (c : ClassFacts) → is_name_among names x ≡ true → find_class V x ≡ Some c → All (λ s. is_name_among names s ≡ true) (supers c)
closed_by V names h x c s e =
    let l : leads_among names (find_class V x) ≡ true = each_among (λ n. leads_among names (find_class V n) ≡ true) names h x s in
    All-from_recursion (λ s. is_name_among names s ≡ true) (supers c) (list_all-each (is_name_among names) (supers c) (sym (ap (leads_among names) e) ∙ l))

-- ---- a platform, a release and a client

abbrev d_Base : Bytes
d_Base = codes "d/Base"

abbrev a_Sub : Bytes
a_Sub = codes "a/Sub"

abbrev r_C : Bytes
r_C = codes "r/C"

abbrev q_M : Bytes
q_M = codes "q/M"

-- d/Base has a public static method m and a public instance method n
abbrev base : ClassFacts
base = extending d_Base object_name [] (member (codes "m") (codes "()V") 9 ∷ member (codes "n") (codes "()V") 1 ∷ [])

-- a class of another package below it
abbrev sub : ClassFacts
sub = extending a_Sub d_Base [] []

abbrev whole : List ClassFacts
whole = object ∷ base ∷ sub ∷ []

abbrev below : ClassFacts
below = extending r_C d_Base [] []

abbrev release : List ClassFacts
release = below ∷ []

-- the client calls m of r/C
abbrev call : Item
call = item.Access InvokeStatic r_C (key (codes "m") (codes "()V")) None Other

abbrev client : ClientClass
client = record { facts = plain q_M; items = call ∷ [] }

abbrev clients : List ClientClass
clients = client ∷ []

abbrev linked : List ClassFacts → World
linked platform = over OneModule release clients platform

-- ---- a part that is enough

abbrev part : List ClassFacts
part = object ∷ base ∷ []

-- the names of the client, of the class that it calls, and of what stands above both
abbrev names : List Bytes
names = q_M ∷ r_C ∷ d_Base ∷ object_name ∷ []

allowed_M : is_allowed_name (side whole release) q_M ≡ true
unfolding asks
allowed_M = simp (ascii q_M (lit< tt, (lit< tt, (lit< tt, tt)))) refl

without_sub : IsEnough part whole OneModule release clients (is_name_among names)
unfolding asks
without_sub = record {
  part = All-from_recursion (Contains whole) part (here object (base ∷ sub ∷ []), (there base object (base ∷ sub ∷ []) (here base (sub ∷ [])), tt));
  same = each_among (λ n. class_named part n ≡ class_named whole n) names (refl, (refl, (refl, (refl, tt))));
  root = refl;
  clients = All-from_recursion (λ c. (is_name_among names c.facts.name ≡ true) × (is_array_text c.facts.name ≡ false)) clients ((refl, refl), tt);
  items = All-from_recursion (λ c. list_all (item_among (is_name_among names)) c.items ≡ true) clients (refl, tt);
  closed = closed_by (linked whole) names (refl, (refl, (refl, (refl, tt))));
  allowed = All-from_recursion (λ c. is_allowed_name (side whole release) c.facts.name ≡ true) clients (allowed_M, tt);
}

-- ---- parts that aren't

-- what lacks d/Base, by whatever names: the call is Ok over the whole, and fails there
lacks_superclass : (outcome (linked whole) q_M call ≡ None) × (outcome (linked (object ∷ [])) q_M call ≡ Some NoClassDefFoundError)
unfolding asks
lacks_superclass = (refl, refl)

without_base : (S : Bytes → Bool) → IsEnough (object ∷ []) whole OneModule release clients S → ⊥
unfolding asks
without_base S e = absurd (let clash : None ≡ Some base = e.same d_Base above in cc)
  where
    calls : S r_C ≡ true
    calls =
        (let all : (S r_C && true && true) ≡ true = All-contains (λ c. list_all (item_among S) c.items ≡ true) clients client e.items (here client []) in
        (and_parts (S r_C) true (and_parts (S r_C && true) true all).0).0)

    above : S d_Base ≡ true
    above = All-contains (λ s. S s ≡ true) (d_Base ∷ []) d_Base (e.closed r_C below calls refl) (here d_Base [])

-- what lacks the class of a receiver, though nothing of that class is called
abbrev call_on : Item
call_on = item.Access InvokeVirtual d_Base (key (codes "n") (codes "()V")) (Some a_Sub) Other

lacks_receiver : (item_among (is_name_among names) call_on ≡ false) × (outcome (linked whole) q_M call_on ≡ None) × (outcome (linked part) q_M call_on ≡ Some VerifyError)
unfolding asks
lacks_receiver = (refl, refl, refl)

-- what lacks the package of a client: the whole refuses the client, and it doesn't
lacks_package : (is_allowed_name (side whole release) (codes "a/M") ≡ false) × (is_allowed_name (side part release) (codes "a/M") ≡ true)
unfolding asks
lacks_package = (refl, simp (ascii (codes "a/M") (lit< tt, (lit< tt, (lit< tt, tt)))) refl)
