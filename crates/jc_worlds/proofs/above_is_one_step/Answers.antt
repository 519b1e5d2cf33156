use Rattle.jc_worlds.proofs.Interfaces.{above_is_one_step as law}
use Rattle.jc_worlds.proofs.above_is_one_step.Goals as goal

pub returns : goal.returns
returns c = law
