use Rattle.jc_sound.proofs.VerdictLaw.{verdict_is_one as law}
use Rattle.jc_sound.proofs.verdict_is_one.Goals as goal

pub returns : goal.returns
returns c = law
