use Rattle.std.proofs.Common.{◌≡◌, ℕ, cond, take, Some}
use Rattle.jc_loading.specs.declared.faults.State.TheVariants as states
use Rattle.jc_loading.specs.steps.Entering.{state_of, is_on}
use Rattle.jc_loading.proofs.faults.note.Given as goal

abbrev pub invariant-loop-frame : goal.invariant-loop-frame
invariant-loop-frame l = (n : ℕ) → state_of l.states n ≡ cond (is_on n (take l.frame-index l.path)) (states.Known (Some l.fault)) (state_of l.initial.states n)
