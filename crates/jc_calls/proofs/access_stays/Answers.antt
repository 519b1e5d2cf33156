use Rattle.jc_calls.proofs.AccessKept.{access_stays as law}
use Rattle.jc_calls.proofs.access_stays.Goals as goal

pub returns : goal.returns
returns c = law
