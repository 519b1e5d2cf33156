use Rattle.jc_sound.proofs.SoundnessLaws.{kept_without_methods as law}
use Rattle.jc_sound.proofs.kept_without_methods.Goals as goal

pub returns : goal.returns
returns c = law
