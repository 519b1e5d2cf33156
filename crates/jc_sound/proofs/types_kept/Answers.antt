use Rattle.jc_sound.proofs.SoundnessLaws.{types_kept as law}
use Rattle.jc_sound.proofs.types_kept.Goals as goal

pub returns : goal.returns
returns c = law
