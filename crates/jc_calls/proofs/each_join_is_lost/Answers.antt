use Rattle.jc_calls.proofs.LostJoins.{join_is_lost}
use Rattle.jc_calls.proofs.each_join_is_lost.Goals as goal

pub returns : goal.returns
returns c = join_is_lost
