use Rattle.jc_dropped.proofs.DroppedLaws.{instances_stay as law}
use Rattle.jc_dropped.proofs.instances_stay.Goals as goal

pub returns : goal.returns
returns c = law
