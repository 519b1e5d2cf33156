use Rattle.std.proofs.Common.{◌-◌, length, take}
use Rattle.jc_rows.specs.steps.Marking.{IsMarking}
use Rattle.jc_rows.proofs.with_rows.mark_upward.Given as goal

abbrev pub invariant-loop-i : goal.invariant-loop-i
invariant-loop-i l = IsMarking l.index (take (length l.order - l.i) l.order) l.made
