use Rattle.jc_acts.specs.Touched.{AreSet}
use Rattle.jc_rules.proofs.LostFlags.{lost_by_first}
use Rattle.jc_rules.proofs.losses.set_lost_by_any.Given as goal

abbrev pub invariant-loop-n : goal.invariant-loop-n
invariant-loop-n l = AreSet l.sides.old (lost_by_first l.sides l.n) l.initial.flags.items l.flags.items
