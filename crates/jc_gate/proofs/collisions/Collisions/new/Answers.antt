use Rattle.std.proofs.Common.{refl}
use Rattle.jc_gate.specs.Rules.{is_of_collision}
use Rattle.jc_gate.proofs.Meanings.{marked_gate}
use Rattle.jc_gate.proofs.collisions.Collisions.new.Goals as goal

pub returns-clause-gate : goal.returns-clause-gate
returns-clause-gate c = marked_gate is_of_collision _ _ refl (λ step rules. refl)
