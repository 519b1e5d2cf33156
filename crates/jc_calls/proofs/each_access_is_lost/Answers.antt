use Rattle.jc_calls.proofs.LostAccess.{access_is_lost}
use Rattle.jc_calls.proofs.each_access_is_lost.Goals as goal

pub returns : goal.returns
returns c = access_is_lost
