use Rattle.std.proofs.Common.{◌==◌, ◌&&◌, ℕ, Bool, not, take}
use Rattle.std.specs.List.{list_any}
use Rattle.jc_select.specs.steps.Losing.{IsSetOf}
use Rattle.jc_select.proofs.dropped.take_out.Given as goal

abbrev pub invariant-loop-id : goal.invariant-loop-id
invariant-loop-id l = (test : ℕ → Bool) → IsSetOf test l.initial.left → IsSetOf (λ k. test k && not (list_any (λ i. i == k) (take l.id-index l.ids))) l.left
