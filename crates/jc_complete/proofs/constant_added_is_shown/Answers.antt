use Rattle.jc_complete.proofs.CompletenessLaws.{constant_added_shown}
use Rattle.jc_complete.proofs.constant_added_is_shown.Goals as goal

pub returns : goal.returns
returns c = constant_added_shown
