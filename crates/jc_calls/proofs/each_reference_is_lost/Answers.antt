use Rattle.jc_calls.proofs.Lost.{each_is_lost}
use Rattle.jc_calls.proofs.each_reference_is_lost.Goals as goal

pub returns : goal.returns
returns c = each_is_lost
