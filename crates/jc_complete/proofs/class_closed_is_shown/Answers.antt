use Rattle.jc_complete.proofs.CompletenessLaws.{class_closed_shown}
use Rattle.jc_complete.proofs.class_closed_is_shown.Goals as goal

pub returns : goal.returns
returns c = class_closed_shown
