use Rattle.jc_exposed.specs.Exposed.{AreStarts}
use Rattle.jc_exposed.proofs.exposed.starts.Given as goal

abbrev pub invariant-loop-n : goal.invariant-loop-n
invariant-loop-n l = AreStarts l.sides l.rows l.n l.starts.items
