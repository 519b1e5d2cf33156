use Rattle.jc_agree.proofs.Steps.{steps_are_checks, steps_are_borne_out}
use Rattle.jc_agree.proofs.steps_are_checks.Goals as goal

pub returns-clause-verdict : goal.returns-clause-verdict
returns-clause-verdict c = steps_are_checks

pub returns-clause-borne_out : goal.returns-clause-borne_out
returns-clause-borne_out c = steps_are_borne_out
