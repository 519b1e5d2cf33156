-- Worked examples: which warnings a class directly below shows.
use Rattle.std.proofs.Common.{◌≡◌, ℕ, true, false, [], ◌∷◌, refl, Some}
use Rattle.jc_facts.specs.Names.{object_name}
use Rattle.jc_sound.proofs.Examples.{init, a_class, public_interface, over}
use Rattle.jc_promises.specs.rule.Warnings.{warning_at}
use Rattle.jc_facts.specs.declared.warning.WarnKind.TheVariants as warn
use Rattle.jc_selection.specs.Shown.{due_below, answered_below, can_stop}
use Rattle.jc_selection.proofs.WorkedWarnings.{selects, p_A, p_I, p_J, k, method}

unfoldable below : ℕ
unfolding selects due_below answered_below
below = 0

-- an interface that has an abstract method now: a class that implements it doesn't answer it
added_abstract : can_stop (over (public_interface p_I [] [] [] ∷ [])) (over (public_interface p_I [] [] (method 0x401 ∷ []) ∷ [])) p_I k ≡ true
unfolding below
added_abstract = refl

-- a class whose default method stands below an abstract one that is gone: the parts differ, so it is warned of
abstract_gone : warning_at (over (a_class p_A 0x21 (Some object_name) (p_J ∷ []) [] (init 1 ∷ []) ∷ public_interface p_I [] [] (method 0x401 ∷ []) ∷ public_interface p_J (p_I ∷ []) [] (method 1 ∷ []) ∷ []))
    (over (a_class p_A 0x21 (Some object_name) (p_J ∷ []) [] (init 1 ∷ []) ∷ public_interface p_I [] [] [] ∷ public_interface p_J (p_I ∷ []) [] (method 1 ∷ []) ∷ [])) p_A k ≡ Some warn.Defaults
unfolding below
abstract_gone = refl

-- and no class directly below shows it
abstract_gone_unseen : can_stop (over (a_class p_A 0x21 (Some object_name) (p_J ∷ []) [] (init 1 ∷ []) ∷ public_interface p_I [] [] (method 0x401 ∷ []) ∷ public_interface p_J (p_I ∷ []) [] (method 1 ∷ []) ∷ []))
    (over (a_class p_A 0x21 (Some object_name) (p_J ∷ []) [] (init 1 ∷ []) ∷ public_interface p_I [] [] [] ∷ public_interface p_J (p_I ∷ []) [] (method 1 ∷ []) ∷ [])) p_A k ≡ false
unfolding below
abstract_gone_unseen = refl
