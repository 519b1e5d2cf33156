use Rattle.jc_worlds.proofs.ChoiceLaws.{each_init_gives_the_same as law}
use Rattle.jc_worlds.proofs.each_init_gives_the_same.Goals as goal

pub returns : goal.returns
returns c = law
