use Rattle.jc_sound.proofs.UsableLaw.{collisions_are_of_usable as law}
use Rattle.jc_sound.proofs.collisions_are_of_usable.Goals as goal

pub returns : goal.returns
returns c = law
