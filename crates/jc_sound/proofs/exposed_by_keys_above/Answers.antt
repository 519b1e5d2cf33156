use Rattle.jc_sound.proofs.ExposedAbove.{exposed_by_keys_above as law}
use Rattle.jc_sound.proofs.exposed_by_keys_above.Goals as goal

pub returns : goal.returns
returns c = law
