use Rattle.jc_worlds.proofs.Interfaces.{levels_suffice as law}
use Rattle.jc_worlds.proofs.levels_suffice.Goals as goal

pub returns : goal.returns
returns c = law
