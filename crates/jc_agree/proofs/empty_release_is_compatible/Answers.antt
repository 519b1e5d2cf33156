use Rattle.jc_agree.proofs.Verdicts.{empty_release as law}
use Rattle.jc_agree.proofs.empty_release_is_compatible.Goals as goal

pub returns : goal.returns
returns c = law
