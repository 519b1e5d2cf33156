use Rattle.jc_worlds.proofs.OverridingLaw.{finals_refuse as law}
use Rattle.jc_worlds.proofs.finals_refuse.Goals as goal

pub returns : goal.returns
returns c = law
