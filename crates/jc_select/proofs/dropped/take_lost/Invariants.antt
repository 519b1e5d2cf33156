use Rattle.std.proofs.Common.{◌&&◌, ℕ, Bool, not, take}
use Rattle.jc_select.specs.steps.Losing.{IsSetOf, some_loses}
use Rattle.jc_select.proofs.dropped.take_lost.Given as goal

abbrev pub invariant-loop-loser : goal.invariant-loop-loser
invariant-loop-loser l = (test : ℕ → Bool) → IsSetOf test l.initial.left → IsSetOf (λ k. test k && not (some_loses l.sides (take l.loser-index l.losers) k)) l.left
