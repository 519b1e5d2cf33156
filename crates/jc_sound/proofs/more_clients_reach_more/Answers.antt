use Rattle.jc_sound.proofs.ReachLaws.{more_clients_reach_more as law}
use Rattle.jc_sound.proofs.more_clients_reach_more.Goals as goal

pub returns : goal.returns
returns c = law
