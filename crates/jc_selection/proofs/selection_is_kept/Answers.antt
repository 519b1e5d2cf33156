use Rattle.jc_selection.proofs.SelectionLaw.{selection_is_kept as law}
use Rattle.jc_selection.proofs.selection_is_kept.Goals as goal

pub returns : goal.returns
returns c = law
