use Rattle.jc_acts.proofs.Untouched.{looks_alike}
use Rattle.jc_acts.proofs.laws.untouched_look_alike.Goals as goal

pub returns : goal.returns
returns c = looks_alike
