-- Worked examples of dropped interfaces: what pairs of small releases lose, and what is listed of it.
use Rattle.std.proofs.Common.{◌≡◌, ℕ, true, false, List, [], ◌∷◌, refl, Some, codes}
use Rattle.jc_facts.specs.Names.{Bytes, object_name}
use Rattle.jc_facts.specs.declared.class_facts.ClassFacts.{ClassFacts}
use Rattle.jc_sound.proofs.Examples.{computes, init, member, a_class, plain, public_class, public_interface, over, extending}
use Rattle.jc_dropped.specs.Dropped.{stays_exposed, is_held, is_exposed_with, asks_for, has_lost, loses_interface, is_dropped}

-- what these compute with
unfoldable drops : ℕ
unfolding computes stays_exposed is_held is_exposed_with asks_for has_lost loses_interface is_dropped
drops = 0

abbrev p_A : Bytes
p_A = codes "p/A"

abbrev p_B : Bytes
p_B = codes "p/B"

abbrev p_I : Bytes
p_I = codes "p/I"

abbrev p_J : Bytes
p_J = codes "p/J"

abbrev p_K : Bytes
p_K = codes "p/K"

abbrev interface : Bytes → List Bytes → ClassFacts
interface x above = public_interface x above [] []

-- a class that extends y and names these interfaces
abbrev naming : Bytes → ℕ → Bytes → List Bytes → ClassFacts
naming x flags y interfaces = a_class x flags (Some y) interfaces [] (init 1 ∷ [])

-- a class that stops naming an interface, and one that extends it: the first alone is listed
no_longer_implemented : let O = over (naming p_A 0x21 object_name (p_I ∷ []) ∷ extending p_B p_A [] [] ∷ interface p_I [] ∷ []) in
    let N = over (plain p_A ∷ extending p_B p_A [] [] ∷ interface p_I [] ∷ []) in
    (is_dropped O N p_A p_I ≡ true) × (loses_interface O N p_B p_I ≡ true) × (is_dropped O N p_B p_I ≡ false)
unfolding drops
no_longer_implemented = (refl, refl, refl)

-- an interface that stops extending another: it is the one listed, and not the class two levels below
no_longer_extended : let O = over (naming p_A 0x21 object_name (p_J ∷ []) ∷ interface p_I [] ∷ interface p_J (p_K ∷ []) ∷ interface p_K (p_I ∷ []) ∷ []) in
    let N = over (naming p_A 0x21 object_name (p_J ∷ []) ∷ interface p_I [] ∷ interface p_J (p_K ∷ []) ∷ interface p_K [] ∷ []) in
    (is_dropped O N p_K p_I ≡ true) × (is_dropped O N p_J p_I ≡ false) × (is_dropped O N p_A p_I ≡ false) × (is_dropped O N p_A p_J ≡ false)
unfolding drops
no_longer_extended = (refl, refl, refl, refl)

-- a package-private superclass that stops naming it: the class below is listed, which clients can name
hidden_superclass : let O = over (extending p_A p_B [] [] ∷ naming p_B 0x20 object_name (p_I ∷ []) ∷ interface p_I [] ∷ []) in
    let N = over (extending p_A p_B [] [] ∷ naming p_B 0x20 object_name [] ∷ interface p_I [] ∷ []) in
    (is_dropped O N p_A p_I ≡ true) × (is_dropped O N p_B p_I ≡ false)
unfolding drops
hidden_superclass = (refl, refl)

-- a static method of p/A with this flag, that gives an object of the package-private class p/B
abbrev exposes_B : ℕ → ClassFacts
exposes_B flag = public_class p_A [] (member (codes "make") (codes "()Lp/B;") flag ∷ [])

-- where it is public, p/B is listed itself
exposed_class : let O = over (exposes_B 9 ∷ naming p_B 0x20 object_name (p_I ∷ []) ∷ interface p_I [] ∷ []) in
    let N = over (exposes_B 9 ∷ naming p_B 0x20 object_name [] ∷ interface p_I [] ∷ []) in
    is_dropped O N p_B p_I ≡ true
unfolding drops
exposed_class = refl

-- and where it isn't, no client holds such an object
unexposed_class : let O = over (exposes_B 8 ∷ naming p_B 0x20 object_name (p_I ∷ []) ∷ interface p_I [] ∷ []) in
    let N = over (exposes_B 8 ∷ naming p_B 0x20 object_name [] ∷ interface p_I [] ∷ []) in
    is_dropped O N p_B p_I ≡ false
unfolding drops
unexposed_class = refl

-- named further up now: nothing is lost
moved_up : let O = over (naming p_A 0x21 p_B (p_I ∷ []) ∷ plain p_B ∷ interface p_I [] ∷ []) in
    let N = over (extending p_A p_B [] [] ∷ naming p_B 0x21 object_name (p_I ∷ []) ∷ interface p_I [] ∷ []) in
    is_dropped O N p_A p_I ≡ false
unfolding drops
moved_up = refl

-- an interface that is gone, or became a class, is a finding and nothing dropped
no_interface_now : let O = over (naming p_A 0x21 object_name (p_I ∷ []) ∷ interface p_I [] ∷ []) in
    (is_dropped O (over (plain p_A ∷ [])) p_A p_I ≡ false) × (is_dropped O (over (plain p_A ∷ plain p_I ∷ [])) p_A p_I ≡ false)
unfolding drops
no_interface_now = (refl, refl)

-- and so is a class that is gone; one of the new side alone had nothing
class_of_one_side : let O = over (naming p_A 0x21 object_name (p_I ∷ []) ∷ interface p_I [] ∷ []) in
    let N = over (interface p_I [] ∷ plain p_B ∷ []) in
    (is_dropped O N p_A p_I ≡ false) × (is_dropped O N p_B p_I ≡ false)
unfolding drops
class_of_one_side = (refl, refl)
