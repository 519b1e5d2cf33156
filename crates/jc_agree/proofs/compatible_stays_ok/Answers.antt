use Rattle.jc_agree.proofs.StaysOk.{stays_ok as law}
use Rattle.jc_agree.proofs.compatible_stays_ok.Goals as goal

pub returns : goal.returns
returns c = law
