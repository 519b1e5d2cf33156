use Rattle.jc_selection.proofs.Shown.{shown as law}
use Rattle.jc_selection.proofs.warnings_are_shown.Goals as goal

pub returns : goal.returns
returns c = law
