use Rattle.jc_selection.proofs.Shown.{kinds_stop as law}
use Rattle.jc_selection.proofs.warned_bases_stop.Goals as goal

pub returns : goal.returns
returns c = law
