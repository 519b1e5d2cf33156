use Rattle.jc_acts.proofs.Untouched.{none_closed}
use Rattle.jc_acts.proofs.laws.untouched_stay_open.Goals as goal

pub returns : goal.returns
returns c = none_closed
