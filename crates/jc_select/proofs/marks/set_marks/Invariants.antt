use Rattle.std.proofs.Common.{◌==◌, take}
use Rattle.std.specs.List.{list_any}
use Rattle.jc_select.specs.steps.Losing.{AreSet}
use Rattle.jc_select.proofs.marks.set_marks.Given as goal

abbrev pub invariant-loop-id : goal.invariant-loop-id
invariant-loop-id l = AreSet (λ n. list_any (λ i. i == n) (take l.id-index l.ids)) l.to l.initial.marks l.marks
