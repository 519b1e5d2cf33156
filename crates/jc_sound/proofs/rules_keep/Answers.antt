use Rattle.jc_sound.proofs.SoundnessLaws.{rules_keep as law}
use Rattle.jc_sound.proofs.rules_keep.Goals as goal

pub returns : goal.returns
returns c = law
