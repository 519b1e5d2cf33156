use Rattle.jc_worlds.proofs.AgreementLaw.{worlds_agree as law}
use Rattle.jc_worlds.proofs.worlds_agree.Goals as goal

pub returns : goal.returns
returns c = law
