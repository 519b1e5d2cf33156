use Rattle.jc_worlds.proofs.AgreementLaw.{sides_stay as law}
use Rattle.jc_worlds.proofs.sides_stay.Goals as goal

pub returns : goal.returns
returns c = law
