use Rattle.jc_sound.proofs.SoundnessLaws.{keeps as law}
use Rattle.jc_sound.proofs.keeps.Goals as goal

pub returns : goal.returns
returns c = law
