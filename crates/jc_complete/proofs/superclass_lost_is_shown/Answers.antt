use Rattle.jc_complete.proofs.CompletenessLaws.{superclass_lost_shown}
use Rattle.jc_complete.proofs.superclass_lost_is_shown.Goals as goal

pub returns : goal.returns
returns c = superclass_lost_shown
