-- Worked examples of method references: what pairs of small releases do to those of clients.
use Rattle.std.proofs.Common.{◌≡◌, ℕ, true, false, List, [], ◌∷◌, refl, Some, None, codes}
use Rattle.jc_facts.specs.declared.act.Act.TheVariants.{InvokeVirtual, InvokeStatic, InvokeSpecial, InvokeInterface}
use Rattle.jc_facts.specs.declared.class_facts.ClassFacts.{ClassFacts}
use Rattle.jc_facts.specs.declared.class_facts.Member.{Member}
use Rattle.jc_facts.specs.declared.key.Key.{Key}
use Rattle.jc_facts.specs.Names.{Bytes, object_name}
use Rattle.jc_facts.specs.world.World.{World, modular_side, with_clients}
use Rattle.jc_facts.specs.client.Outcome.{outcome}
use Rattle.jc_sound.proofs.Examples.{computes, init, key, member, a_class, plain, object, over, extending}
use Rattle.jc_calls.specs.Handles.{handle_item, handle_ok, are_referable}
use Rattle.jc_calls.specs.References.{reference_lost}

-- what these compute with
unfoldable refers : ℕ
unfolding computes handle_ok reference_lost
refers = 0

abbrev p_A : Bytes
p_A = codes "p/A"

abbrev p_H : Bytes
p_H = codes "p/H"

abbrev p_I : Bytes
p_I = codes "p/I"

abbrev q_B : Bytes
q_B = codes "q/B"

-- a client, and one that extends p/A
abbrev user : ClassFacts
user = plain (codes "app/M")

abbrev below : ClassFacts
below = extending (codes "app/M") p_A [] []

abbrev app_M : Bytes
app_M = codes "app/M"

-- the method m
abbrev m : ℕ → Member
m flags = member (codes "m") (codes "()V") flags

abbrev m_key : Key
m_key = key (codes "m") (codes "()V")

-- a class of these flags with these methods, beside its initializer
abbrev having : Bytes → ℕ → Bytes → List Member → ClassFacts
having x flags above methods = a_class x flags (Some above) [] [] (init 1 ∷ methods)

abbrev face : Bytes → ℕ → List Bytes → List Member → ClassFacts
face x flags above methods = a_class x flags (Some object_name) above [] methods

-- a class that has the package-private interface p/H above it
abbrev over_face : Bytes → List Member → ClassFacts
over_face x methods = a_class x 0x21 (Some object_name) (p_H ∷ []) [] (init 1 ∷ methods)

-- ---- methods that move up into a package-private class or interface

-- a static method
abbrev old_static : World
old_static = over (having p_A 0x21 p_H (m 9 ∷ []) ∷ having p_H 0x20 object_name [] ∷ [])

abbrev new_static : World
new_static = over (having p_A 0x21 p_H [] ∷ having p_H 0x20 object_name (m 9 ∷ []) ∷ [])

handle_static : (reference_lost old_static new_static p_A m_key ≡ true)
    × (handle_ok (with_clients old_static (user ∷ [])) app_M InvokeStatic p_A m_key ≡ true)
    × (outcome (with_clients new_static (user ∷ [])) app_M (handle_item InvokeStatic p_A m_key) ≡ None)
    × (handle_ok (with_clients new_static (user ∷ [])) app_M InvokeStatic p_A m_key ≡ false)
unfolding refers
handle_static = (refl, refl, refl, refl)

-- a final one, named through p/A and through a client's own class
abbrev old_final : World
old_final = over (having p_A 0x21 p_H (m 0x11 ∷ []) ∷ having p_H 0x20 object_name [] ∷ [])

abbrev new_final : World
new_final = over (having p_A 0x21 p_H [] ∷ having p_H 0x20 object_name (m 0x11 ∷ []) ∷ [])

handle_final : (reference_lost old_final new_final p_A m_key ≡ true)
    × (handle_ok (with_clients old_final (user ∷ [])) app_M InvokeVirtual p_A m_key ≡ true) × (handle_ok (with_clients new_final (user ∷ [])) app_M InvokeVirtual p_A m_key ≡ false)
unfolding refers
handle_final = (refl, refl, refl)

handle_own_class : (handle_ok (with_clients old_final (below ∷ [])) app_M InvokeVirtual app_M m_key ≡ true) × (handle_ok (with_clients new_final (below ∷ [])) app_M InvokeVirtual app_M m_key ≡ false)
unfolding refers
handle_own_class = (refl, refl)

-- an abstract one
handle_abstract : reference_lost (over (having p_A 0x421 p_H (m 0x401 ∷ []) ∷ having p_H 0x420 object_name [] ∷ [])) (over (having p_A 0x421 p_H [] ∷ having p_H 0x420 object_name (m 0x401 ∷ []) ∷ [])) p_A m_key ≡ true
unfolding refers
handle_abstract = refl

-- one of an interface
abbrev old_interface : World
old_interface = over (face p_I 0x601 (p_H ∷ []) (m 0x401 ∷ []) ∷ face p_H 0x600 [] [] ∷ [])

abbrev new_interface : World
new_interface = over (face p_I 0x601 (p_H ∷ []) [] ∷ face p_H 0x600 [] (m 0x401 ∷ []) ∷ [])

handle_interface : (reference_lost old_interface new_interface p_I m_key ≡ true)
    × (handle_ok (with_clients old_interface (user ∷ [])) app_M InvokeInterface p_I m_key ≡ true) × (handle_ok (with_clients new_interface (user ∷ [])) app_M InvokeInterface p_I m_key ≡ false)
unfolding refers
handle_interface = (refl, refl, refl)

-- a bridge, which javac puts into a public class below a package-private one, keeps it
with_bridge : reference_lost (over (having p_A 0x21 p_H (m 1 ∷ []) ∷ having p_H 0x20 object_name [] ∷ [])) (over (having p_A 0x21 p_H (m 0x1041 ∷ []) ∷ having p_H 0x20 object_name (m 1 ∷ []) ∷ [])) p_A m_key ≡ false
unfolding refers
with_bridge = refl

-- where the bridge goes, and its method becomes final in the package-private class, no client loses a handle: javac had made a lambda
abbrev old_bridge : World
old_bridge = over (having p_A 0x21 p_H (m 0x1041 ∷ []) ∷ having p_H 0x20 object_name (m 1 ∷ []) ∷ [])

abbrev new_bridge : World
new_bridge = over (having p_A 0x21 p_H [] ∷ having p_H 0x20 object_name (m 0x11 ∷ []) ∷ [])

bridge_goes : (reference_lost old_bridge new_bridge p_A m_key ≡ false) × (are_referable old_bridge InvokeVirtual p_A m_key ≡ false)
    × (handle_ok (with_clients old_bridge (user ∷ [])) app_M InvokeVirtual p_A m_key ≡ true) × (handle_ok (with_clients new_bridge (user ∷ [])) app_M InvokeVirtual p_A m_key ≡ false)
unfolding refers
bridge_goes = (refl, refl, refl, refl)

-- a protected one, which clients below p/A alone can call: javac makes a lambda of it, and only a handle would be lost
abbrev old_protected : World
old_protected = over (having p_A 0x21 p_H (m 0xC ∷ []) ∷ having p_H 0x20 object_name [] ∷ [])

abbrev new_protected : World
new_protected = over (having p_A 0x21 p_H [] ∷ having p_H 0x20 object_name (m 0xC ∷ []) ∷ [])

handle_protected : (reference_lost old_protected new_protected p_A m_key ≡ false) × (are_referable old_protected InvokeStatic p_A m_key ≡ false)
    × (handle_ok (with_clients old_protected (below ∷ [])) app_M InvokeStatic p_A m_key ≡ true) × (handle_ok (with_clients new_protected (below ∷ [])) app_M InvokeStatic p_A m_key ≡ false)
unfolding refers
handle_protected = (refl, refl, refl, refl)

-- one of a class, into a package-private interface: the handle goes on. Only that of invokespecial doesn't, which javac makes of no reference
abbrev old_default : World
old_default = over (over_face p_A (m 1 ∷ []) ∷ face p_H 0x600 [] [] ∷ [])

abbrev new_default : World
new_default = over (over_face p_A [] ∷ face p_H 0x600 [] (m 1 ∷ []) ∷ [])

handle_default : (reference_lost old_default new_default p_A m_key ≡ false)
    × (handle_ok (with_clients old_default (user ∷ [])) app_M InvokeVirtual p_A m_key ≡ true) × (handle_ok (with_clients new_default (user ∷ [])) app_M InvokeVirtual p_A m_key ≡ true)
unfolding refers
handle_default = (refl, refl, refl)

handle_special : (handle_ok (with_clients old_default (below ∷ [])) app_M InvokeSpecial p_A m_key ≡ true) × (handle_ok (with_clients new_default (below ∷ [])) app_M InvokeSpecial p_A m_key ≡ false)
unfolding refers
handle_special = (refl, refl)

-- a package-private class of the client's own package is accessible, and so is one that is nested and protected, whose class file says that it is public
own_package : (handle_ok (with_clients old_static (user ∷ having (codes "app/H") 0x20 object_name (m 8 ∷ []) ∷ [])) app_M InvokeStatic (codes "app/H") m_key ≡ true)
    × (handle_ok (with_clients (over (having (codes "p/A$B") 0x21 object_name (m 9 ∷ []) ∷ [])) (user ∷ [])) app_M InvokeStatic (codes "p/A$B") m_key ≡ true)
unfolding refers
own_package = (refl, refl)

-- ---- what isn't told

-- a class that was hidden before: no compiler had written a handle of it
was_hidden : reference_lost new_static new_static p_A m_key ≡ false
unfolding refers
was_hidden = refl

-- a method that is gone is a finding
is_gone : reference_lost old_static (over (having p_A 0x21 p_H [] ∷ having p_H 0x20 object_name [] ∷ [])) p_A m_key ≡ false
unfolding refers
is_gone = refl

-- one that moves up into a public class goes on
moved_up : reference_lost (over (having p_A 0x21 p_H (m 9 ∷ []) ∷ having p_H 0x21 object_name [] ∷ [])) (over (having p_A 0x21 p_H [] ∷ having p_H 0x21 object_name (m 9 ∷ []) ∷ [])) p_A m_key ≡ false
unfolding refers
moved_up = refl

-- ---- modules

-- a release whose module exports the package p alone
abbrev exporting : List ClassFacts → World
exporting release = modular_side (Some (codes "p" ∷ [])) (object ∷ []) release

-- a public superclass, of a package that isn't exported
handle_unexported : reference_lost (exporting (having p_A 0x21 q_B (m 9 ∷ []) ∷ having q_B 0x21 object_name [] ∷ [])) (exporting (having p_A 0x21 q_B [] ∷ having q_B 0x21 object_name (m 9 ∷ []) ∷ [])) p_A m_key ≡ true
unfolding refers
handle_unexported = refl
