use Rattle.jc_dropped.proofs.DroppedLaws.{interfaces_stay as law}
use Rattle.jc_dropped.proofs.interfaces_stay.Goals as goal

pub returns : goal.returns
returns c = law
