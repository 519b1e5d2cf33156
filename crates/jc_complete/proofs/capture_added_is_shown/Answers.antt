use Rattle.jc_complete.proofs.CompletenessLaws.{capture_added_shown}
use Rattle.jc_complete.proofs.capture_added_is_shown.Goals as goal

pub returns : goal.returns
returns c = capture_added_shown
