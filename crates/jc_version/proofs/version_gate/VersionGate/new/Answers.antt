use Rattle.std.proofs.Common.{refl}
use Rattle.jc_version.proofs.Gate.{version_gate}
use Rattle.jc_version.proofs.version_gate.VersionGate.new.Goals as goal

pub returns-clause-gate : goal.returns-clause-gate
returns-clause-gate c = version_gate _ refl (λ informed rules. refl)
