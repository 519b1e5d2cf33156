use Rattle.jc_agree.proofs.Verdicts.{same_release as law}
use Rattle.jc_agree.proofs.same_release_is_compatible.Goals as goal

pub returns : goal.returns
returns c = law
