use Rattle.jc_sound.proofs.KeyLaws.{collision_keys_are_declared as law}
use Rattle.jc_sound.proofs.collision_keys_are_declared.Goals as goal

pub returns : goal.returns
returns c = law
