use Rattle.jc_worlds.proofs.Alike.{clients_link_as_release as law}
use Rattle.jc_worlds.proofs.clients_link_as_release.Goals as goal

pub returns : goal.returns
returns c = law
