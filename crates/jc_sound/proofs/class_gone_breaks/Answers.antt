use Rattle.jc_sound.proofs.ClassGoneLaw.{class_gone_breaks}
use Rattle.jc_sound.proofs.class_gone_breaks.Goals as goal

pub returns : goal.returns
returns c = class_gone_breaks
