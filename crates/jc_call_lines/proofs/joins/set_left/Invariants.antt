use Rattle.jc_acts.specs.Touched.{AreSet}
use Rattle.jc_call_lines.proofs.JoinLeft.{left_by_first}
use Rattle.jc_call_lines.proofs.joins.set_left.Given as goal

abbrev pub invariant-loop-n : goal.invariant-loop-n
invariant-loop-n l = AreSet l.sides.old (left_by_first l.sides l.n) l.initial.flags.items l.flags.items
