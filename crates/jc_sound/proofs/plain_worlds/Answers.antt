use Rattle.jc_sound.proofs.Plain.{plain_worlds as law}
use Rattle.jc_sound.proofs.plain_worlds.Goals as goal

pub returns : goal.returns
returns c = law
