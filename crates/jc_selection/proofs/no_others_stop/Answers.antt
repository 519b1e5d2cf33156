use Rattle.jc_selection.proofs.Shown.{no_others as law}
use Rattle.jc_selection.proofs.no_others_stop.Goals as goal

pub returns : goal.returns
returns c = law
