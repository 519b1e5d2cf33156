use Rattle.jc_worlds.proofs.Alike.{worlds_link_alike as law}
use Rattle.jc_worlds.proofs.worlds_link_alike.Goals as goal

pub returns : goal.returns
returns c = law
