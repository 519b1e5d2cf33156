use Rattle.jc_sound.proofs.FindingLaws.{empty_means_none as law}
use Rattle.jc_sound.proofs.empty_means_none.Goals as goal

pub returns : goal.returns
returns c = law
