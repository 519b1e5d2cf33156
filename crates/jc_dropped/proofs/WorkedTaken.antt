-- Worked examples of hidden interfaces that members take: a package-private p/I, which p/C no longer implements.
use Rattle.std.proofs.Common.{◌≡◌, ℕ, true, false, List, [], ◌∷◌, refl, Some, codes}
use Rattle.jc_facts.specs.declared.class_facts.ClassFacts.{ClassFacts}
use Rattle.jc_facts.specs.Names.{Bytes, object_name}
use Rattle.jc_facts.specs.world.World.{World}
use Rattle.jc_promises.specs.rule.Bases.{is_steady}
use Rattle.jc_sound.proofs.Examples.{computes, init, member, a_class, plain, public_class, public_interface, over, extending}
use Rattle.jc_dropped.specs.Dropped.{stays_exposed, is_held, is_exposed_with, asks_for, has_lost, loses_interface, is_dropped}
use Rattle.jc_dropped.specs.InterfacesKept.{InterfacesKept}

-- what these compute with
unfoldable taken : ℕ
unfolding computes stays_exposed is_held is_exposed_with asks_for has_lost loses_interface is_dropped
taken = 0

abbrev C : Bytes
C = codes "p/C"

abbrev D : Bytes
D = codes "p/D"

abbrev I : Bytes
I = codes "p/I"

abbrev X : Bytes
X = codes "p/X"

abbrev Y : Bytes
Y = codes "p/Y"

-- package-private
abbrev hidden_interface : ClassFacts
hidden_interface = a_class I 0x600 (Some object_name) [] [] []

-- a class of these flags that names these interfaces
abbrev naming : Bytes → ℕ → List Bytes → ClassFacts
naming x flags interfaces = a_class x flags (Some object_name) interfaces [] (init 1 ∷ [])

-- a static method of the public class x, with these flags, that takes a p/I
abbrev taking : Bytes → ℕ → ClassFacts
taking x flags = public_class x [] (member (codes "take") (codes "(Lp/I;)V") flags ∷ [])

-- ---- a class that clients can name

abbrev release : List Bytes → ClassFacts → World
release interfaces by = over (naming C 0x21 interfaces ∷ hidden_interface ∷ by ∷ [])

-- by a public method, though p/I isn't steady; what is left out is the package-private method of the next example
no_longer_taken : let O = release (I ∷ []) (taking X 9) in let N = release [] (taking X 9) in
    (is_dropped O N C I ≡ true) × (is_steady O N I ≡ false)
unfolding taken
no_longer_taken = (refl, refl)

-- one that only the library calls: clients hand over no p/I
not_exposed : is_dropped (release (I ∷ []) (taking X 8)) (release [] (taking X 8)) C I ≡ false
unfolding taken
not_exposed = refl

-- a protected method, by the clients below its class; p/C they can name all the same
to_one_seat : is_dropped (release (I ∷ []) (taking X 12)) (release [] (taking X 12)) C I ≡ true
unfolding taken
to_one_seat = refl

-- a protected initializer is called by clients below its class
abbrev made_from : ClassFacts
made_from = a_class X 0x421 (Some object_name) [] [] (member (codes "<init>") (codes "(Lp/I;)V") 4 ∷ [])

by_constructor : is_dropped (release (I ∷ []) made_from) (release [] made_from) C I ≡ true
unfolding taken
by_constructor = refl

-- a field of it
abbrev kept_in : ClassFacts
kept_in = public_class X (member (codes "now") (codes "[Lp/I;") 9 ∷ []) []

by_field : is_dropped (release (I ∷ []) kept_in) (release [] kept_in) C I ≡ true
unfolding taken
by_field = refl

-- what was exposed with the old release counts: the new one may have closed the method, which is a finding too
closed_now : is_dropped (release (I ∷ []) (taking X 9)) (release [] (taking X 8)) C I ≡ true
unfolding taken
closed_now = refl

-- and it opens none of its own accord
opened_now : is_dropped (release (I ∷ []) (taking X 8)) (release [] (taking X 9)) C I ≡ false
unfolding taken
opened_now = refl

-- ---- the interface on the new side

-- one that became a class, or is gone, is a finding and nothing dropped; one that became public is dropped
interface_now : let O = release (I ∷ []) (taking X 9) in
    (is_dropped O (over (plain C ∷ naming I 0x20 [] ∷ taking X 9 ∷ [])) C I ≡ false)
    × (is_dropped O (over (plain C ∷ taking X 9 ∷ [])) C I ≡ false)
    × (is_dropped O (over (plain C ∷ public_interface I [] [] [] ∷ taking X 9 ∷ [])) C I ≡ true)
unfolding taken
interface_now = (refl, refl, refl)

-- ---- where it is lost

-- a class below p/C has lost it too, and isn't listed
below : let O = over (naming C 0x21 (I ∷ []) ∷ extending D C [] [] ∷ hidden_interface ∷ taking X 9 ∷ []) in
    let N = over (naming C 0x21 [] ∷ extending D C [] [] ∷ hidden_interface ∷ taking X 9 ∷ []) in
    (is_dropped O N C I ≡ true) × (loses_interface O N D I ≡ true) × (is_dropped O N D I ≡ false)
unfolding taken
below = (refl, refl, refl)

-- below a package-private class, of which no client holds values, it is the one that is listed
below_hidden : let O = over (naming C 0x20 (I ∷ []) ∷ extending D C [] [] ∷ hidden_interface ∷ taking X 9 ∷ []) in
    let N = over (naming C 0x20 [] ∷ extending D C [] [] ∷ hidden_interface ∷ taking X 9 ∷ []) in
    (is_dropped O N D I ≡ true) × (is_dropped O N C I ≡ false)
unfolding taken
below_hidden = (refl, refl)

-- and below one that is gone
below_gone : let O = over (naming C 0x21 (I ∷ []) ∷ extending D C [] [] ∷ hidden_interface ∷ taking X 9 ∷ []) in
    let N = over (plain D ∷ hidden_interface ∷ taking X 9 ∷ []) in
    (is_dropped O N D I ≡ true) × (is_dropped O N C I ≡ false)
unfolding taken
below_gone = (refl, refl)

-- ---- a hidden class

-- a static method of the public class p/Y, with these flags, that gives a p/C
abbrev giving : ℕ → ClassFacts
giving flags = public_class Y [] (member (codes "make") (codes "()Lp/C;") flags ∷ [])

abbrev hidden_release : List Bytes → ClassFacts → ClassFacts → World
hidden_release interfaces gives takes = over (naming C 0x20 interfaces ∷ hidden_interface ∷ gives ∷ takes ∷ [])

-- both exposed to all clients, and to those below p/Y where its method is protected: these can call p/X.take too
both_hidden : (is_dropped (hidden_release (I ∷ []) (giving 9) (taking X 9)) (hidden_release [] (giving 9) (taking X 9)) C I ≡ true)
    × (is_dropped (hidden_release (I ∷ []) (giving 12) (taking X 9)) (hidden_release [] (giving 12) (taking X 9)) C I ≡ true)
unfolding taken
both_hidden = (refl, refl)

-- the one to clients below p/Y and the other to those below p/X: no seat serves both
two_seats : let O = hidden_release (I ∷ []) (giving 12) (taking X 12) in let N = hidden_release [] (giving 12) (taking X 12) in
    (is_held O N C ≡ true) × (is_dropped O N C I ≡ false)
unfolding taken
two_seats = (refl, refl)

-- ---- what clients keep

-- where p/C stops naming it, interfaces aren't kept, whether there is a client or not
taken_counts : InterfacesKept (release (I ∷ []) (taking X 9)) (release [] (taking X 9)) [] → ⊥
unfolding taken
taken_counts h = let lost : false ≡ true = (h C I refl refl refl refl).1 in absurd (cc)
