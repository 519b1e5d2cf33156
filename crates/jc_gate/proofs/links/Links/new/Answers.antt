use Rattle.std.proofs.Common.{refl}
use Rattle.jc_gate.specs.Rules.{is_of_finding}
use Rattle.jc_gate.proofs.Meanings.{marked_gate}
use Rattle.jc_gate.proofs.links.Links.new.Goals as goal

pub returns-clause-gate : goal.returns-clause-gate
returns-clause-gate c = marked_gate is_of_finding _ _ refl (λ step rules. refl)
