use Rattle.jc_sound.proofs.SoundnessLaws.{fields_kept as law}
use Rattle.jc_sound.proofs.fields_kept.Goals as goal

pub returns : goal.returns
returns c = law
