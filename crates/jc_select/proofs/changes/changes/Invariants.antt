use Rattle.jc_select.proofs.ChangedKeys.{AreSoFar}
use Rattle.jc_select.proofs.changes.changes.Given as goal

abbrev pub invariant-loop-n : goal.invariant-loop-n
invariant-loop-n l = AreSoFar l.sides l.n l.changes.items
