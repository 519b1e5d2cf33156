use Rattle.jc_worlds.proofs.WalkLaws.{seat_ends_the_clients as law}
use Rattle.jc_worlds.proofs.seat_ends_the_clients.Goals as goal

pub returns : goal.returns
returns c = law
