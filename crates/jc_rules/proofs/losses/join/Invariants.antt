use Rattle.jc_rules.specs.steps.Losses.{AreJoined}
use Rattle.jc_rules.proofs.losses.join.Given as goal

abbrev pub invariant-loop-n : goal.invariant-loop-n
invariant-loop-n l = AreJoined l.initial.flags.items l.others l.n l.flags.items
