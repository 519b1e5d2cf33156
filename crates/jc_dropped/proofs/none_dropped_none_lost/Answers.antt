use Rattle.jc_dropped.proofs.DroppedLaws.{none_lost as law}
use Rattle.jc_dropped.proofs.none_dropped_none_lost.Goals as goal

pub returns : goal.returns
returns c = law
