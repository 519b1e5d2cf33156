use Rattle.jc_calls.proofs.JoinsKept.{joins_stay as law}
use Rattle.jc_calls.proofs.joins_stay.Goals as goal

pub returns : goal.returns
returns c = law
