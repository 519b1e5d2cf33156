use Rattle.jc_sound.proofs.ReachLaws.{reaches_by_itself as law}
use Rattle.jc_sound.proofs.reaches_by_itself.Goals as goal

pub returns : goal.returns
returns c = law
