use Rattle.std.proofs.Common.{◌==◌, true, take}
use Rattle.std.specs.List.{list_any}
use Rattle.jc_select.specs.steps.Losing.{AreSet}
use Rattle.jc_select.proofs.losing.set_lost.Given as goal

abbrev pub invariant-loop-row : goal.invariant-loop-row
invariant-loop-row l = AreSet (λ n. list_any (λ row. list_any (λ i. i == n) row) (take l.row-index l.rows)) true l.initial.marks l.marks
