use Rattle.jc_worlds.proofs.WalkLaws.{walks_over_clients as law}
use Rattle.jc_worlds.proofs.walks_over_clients.Goals as goal

pub returns : goal.returns
returns c = law
