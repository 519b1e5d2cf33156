use Rattle.jc_index.specs.steps.Seals.{AreSeals}
use Rattle.jc_index.proofs.seals.seals.Given as goal

abbrev pub invariant-loop-n : goal.invariant-loop-n
invariant-loop-n l = AreSeals l.classes l.seals.items
