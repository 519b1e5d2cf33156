-- Worked examples of access: methods of interfaces that base classes bring to clients which declare them with less access.
use Rattle.std.proofs.Common.{◌≡◌, ℕ, true, false, List, [], ◌∷◌, refl, Some, None, codes}
use Rattle.jc_facts.specs.declared.class_facts.ClassFacts.{ClassFacts}
use Rattle.jc_facts.specs.declared.class_facts.Member.{Member}
use Rattle.jc_facts.specs.declared.key.Key.{Key}
use Rattle.jc_facts.specs.declared.warning.WarnKind.TheVariants as warn
use Rattle.jc_facts.specs.Names.{Bytes, object_name}
use Rattle.jc_facts.specs.world.Hierarchy.{chain}
use Rattle.jc_facts.specs.world.Loading.{load_fault}
use Rattle.jc_facts.specs.world.World.{World, DeclaredMember, with_clients}
use Rattle.jc_promises.specs.rule.Selection.{first_kind, chain_kind}
use Rattle.jc_promises.specs.rule.Warnings.{interfaces_from, part, parts_agree, warning_at}
use Rattle.jc_sound.proofs.Examples.{computes, init, key, member, a_class, extending, object, over}
use Rattle.jc_calls.specs.Access.{access_added, is_called_above}
use Rattle.jc_calls.specs.Selected.{selected}

-- what these compute with
unfoldable accesses : ℕ
unfolding computes first_kind chain_kind interfaces_from part parts_agree warning_at access_added selected
accesses = 0

abbrev p_A : Bytes
p_A = codes "p/A"

abbrev p_I : Bytes
p_I = codes "p/I"

abbrev app_M : Bytes
app_M = codes "app/M"

-- the method m
abbrev m : ℕ → Member
m flags = member (codes "m") (codes "()V") flags

abbrev m_key : Key
m_key = key (codes "m") (codes "()V")

-- p/A, which implements these and has these methods, and an interface of these methods
abbrev A_with : List Bytes → List Member → ClassFacts
A_with above methods = a_class p_A 0x21 (Some object_name) above [] (init 1 ∷ methods)

abbrev face : Bytes → List Member → ClassFacts
face x methods = a_class x 0x601 (Some object_name) [] [] methods

-- the interface's method, and a client's
abbrev of_I : DeclaredMember
of_I = record { owner = p_I; member = m 0x401 }

abbrev own : ℕ → DeclaredMember
own flags = record { owner = app_M; member = m flags }

-- a client that extends p/A and has the method with this access
abbrev below : ℕ → ClassFacts
below flags = extending app_M p_A [] (m flags ∷ [])

abbrev among : World → ClassFacts → World
among W c = with_clients W (c ∷ [])

-- ---- lines

-- p/A implements p/I now, whose method a client below it declares with less access: what is selected for it isn't public
abbrev before : World
before = over (A_with [] [] ∷ face p_I (m 0x401 ∷ []) ∷ [])

abbrev after : World
after = over (A_with (p_I ∷ []) (m 1 ∷ []) ∷ face p_I (m 0x401 ∷ []) ∷ [])

weaker_override : (access_added before after p_A m_key ≡ true)
    × (load_fault (among before (below 0)) app_M ≡ None) × (load_fault (among after (below 0)) app_M ≡ None)
    × (is_called_above (among before (below 0)) app_M m_key ≡ false) × (is_called_above (among after (below 0)) app_M m_key ≡ true)
    × (selected m_key of_I (chain (among after (below 0)) app_M) ≡ Some (own 0))
unfolding accesses
weaker_override = (refl, refl, refl, refl, refl, refl)

-- of another client the call runs a public method: its own, or that of p/A, also where it has a private or a static one
stronger_override : (selected m_key of_I (chain (among after (below 1)) app_M) ≡ Some (own 1))
    × (selected m_key of_I (chain (among after (below 2)) app_M) ≡ Some (record { owner = p_A; member = m 1 }))
    × (selected m_key of_I (chain (among after (below 8)) app_M) ≡ Some (record { owner = p_A; member = m 1 }))
unfolding accesses
stronger_override = (refl, refl, refl)

-- so it is with an interface of the platform
abbrev comparable : Bytes
comparable = codes "java/lang/Comparable"

abbrev compare : Member
compare = member (codes "compareTo") (codes "(Ljava/lang/Object;)I") 0x401

abbrev with_comparable : List ClassFacts → World
with_comparable release = record (over release) { platform = object ∷ face comparable (compare ∷ []) ∷ [] }

weaker_platform : access_added (with_comparable (A_with [] [] ∷ [])) (with_comparable (A_with (comparable ∷ []) (record compare { flags = 0x1041 } ∷ []) ∷ [])) p_A (key (codes "compareTo") (codes "(Ljava/lang/Object;)I")) ≡ true
unfolding accesses
weaker_platform = refl

-- and with an interface that was above already and gets the method
gets_method : access_added (over (A_with (p_I ∷ []) [] ∷ face p_I [] ∷ [])) (over (A_with (p_I ∷ []) [] ∷ face p_I (m 1 ∷ []) ∷ [])) p_A m_key ≡ true
unfolding accesses
gets_method = refl

-- an interface that stands above one that the class implements, and one that its superclass brings
abbrev p_J : Bytes
p_J = codes "p/J"

from_above : (access_added before (over (A_with (p_J ∷ []) (m 1 ∷ []) ∷ face p_I (m 0x401 ∷ []) ∷ a_class p_J 0x601 (Some object_name) (p_I ∷ []) [] [] ∷ [])) p_A m_key ≡ true)
    × (access_added before (over (extending p_A p_J [] [] ∷ face p_I (m 0x401 ∷ []) ∷ a_class p_J 0x20 (Some object_name) (p_I ∷ []) [] (init 1 ∷ m 1 ∷ []) ∷ [])) p_A m_key ≡ true)
unfolding accesses
from_above = (refl, refl)

-- a protected method of p/A, which a client overrides with the same access, becomes public and one of the interface
abbrev with_protected : World
with_protected = over (A_with [] (m 4 ∷ []) ∷ face p_I (m 0x401 ∷ []) ∷ [])

by_protected : (access_added with_protected after p_A m_key ≡ true)
    × (load_fault (among with_protected (below 4)) app_M ≡ None) × (load_fault (among after (below 4)) app_M ≡ None)
    × (is_called_above (among with_protected (below 4)) app_M m_key ≡ false) × (is_called_above (among after (below 4)) app_M m_key ≡ true)
    × (selected m_key of_I (chain (among after (below 4)) app_M) ≡ Some (own 4))
unfolding accesses
by_protected = (refl, refl, refl, refl, refl, refl)

-- a private one, and one of its package, beside which a client had one of its own
by_private : (access_added (over (A_with [] (m 2 ∷ []) ∷ face p_I (m 0x401 ∷ []) ∷ [])) after p_A m_key ≡ true) × (access_added (over (A_with [] (m 0 ∷ []) ∷ face p_I (m 0x401 ∷ []) ∷ [])) after p_A m_key ≡ true)
unfolding accesses
by_private = (refl, refl)

-- ---- no lines

-- a key that was found before brings nothing new: a public method of the class, or one of the interface
was_found : (access_added (over (A_with [] (m 1 ∷ []) ∷ face p_I (m 0x401 ∷ []) ∷ [])) after p_A m_key ≡ false) × (access_added after after p_A m_key ≡ false)
unfolding accesses
was_found = (refl, refl)

-- an interface that isn't above
not_above : access_added before (over (A_with [] (m 1 ∷ []) ∷ face p_I (m 0x401 ∷ []) ∷ [])) p_A m_key ≡ false
unfolding accesses
not_above = refl

-- a static method of an interface, which nobody inherits
is_static : access_added before (over (A_with (p_I ∷ []) [] ∷ face p_I (m 9 ∷ []) ∷ [])) p_A m_key ≡ false
unfolding accesses
is_static = refl

-- a class that nobody can extend
is_final : access_added (over (record (A_with [] []) { flags = 0x31 } ∷ face p_I (m 0x401 ∷ []) ∷ [])) (over (record (A_with (p_I ∷ []) (m 1 ∷ [])) { flags = 0x31 } ∷ face p_I (m 0x401 ∷ []) ∷ [])) p_A m_key ≡ false
unfolding accesses
is_final = refl

-- a protected one that was final, and that no client has
was_final : access_added (over (A_with [] (m 0x14 ∷ []) ∷ face p_I (m 0x401 ∷ []) ∷ [])) after p_A m_key ≡ false
unfolding accesses
was_final = refl

-- a method that is final above is a collision of its own
made_final : access_added before (over (A_with (p_I ∷ []) (m 0x11 ∷ []) ∷ face p_I (m 0x401 ∷ []) ∷ [])) p_A m_key ≡ false
unfolding accesses
made_final = refl

-- ---- what isn't told

-- an interface that the client names itself, beside p/A, and that gets the method: it isn't above p/A. The warning on defaults tells it
abbrev beside : ClassFacts
beside = a_class app_M 0x21 (Some p_A) (p_I ∷ []) [] (init 1 ∷ m 0 ∷ [])

abbrev without : World
without = over (A_with [] [] ∷ face p_I [] ∷ [])

abbrev with_default : World
with_default = over (A_with [] [] ∷ face p_I (m 1 ∷ []) ∷ [])

by_own_interface : (access_added without with_default p_A m_key ≡ false) × (warning_at without with_default p_I m_key ≡ Some warn.Defaults)
    × (is_called_above (among without beside) app_M m_key ≡ false) × (is_called_above (among with_default beside) app_M m_key ≡ true)
    × (selected m_key (record { owner = p_I; member = m 1 }) (chain (among with_default beside) app_M) ≡ Some (own 0))
unfolding accesses
by_own_interface = (refl, refl, refl, refl, refl)
