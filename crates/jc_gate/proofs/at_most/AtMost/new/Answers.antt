use Rattle.std.proofs.Common.{refl}
use Rattle.jc_gate.proofs.Meanings.{few_gate}
use Rattle.jc_gate.proofs.at_most.AtMost.new.Goals as goal

pub returns-clause-gate : goal.returns-clause-gate
returns-clause-gate c = few_gate c.args.limit _ _ refl (λ step rules. refl)
