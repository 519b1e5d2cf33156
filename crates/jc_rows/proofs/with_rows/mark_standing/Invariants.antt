use Rattle.std.proofs.Common.{take}
use Rattle.jc_rows.specs.steps.Marking.{AreStanding}
use Rattle.jc_rows.proofs.with_rows.mark_standing.Given as goal

abbrev pub invariant-loop-class : goal.invariant-loop-class
invariant-loop-class l = AreStanding l.index (take l.class-index l.order) l.made
