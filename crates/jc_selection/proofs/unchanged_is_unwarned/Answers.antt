use Rattle.jc_selection.proofs.Unchanged.{unchanged as law}
use Rattle.jc_selection.proofs.unchanged_is_unwarned.Goals as goal

pub returns : goal.returns
returns c = law
