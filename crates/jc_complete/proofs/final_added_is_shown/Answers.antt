use Rattle.jc_complete.proofs.CompletenessLaws.{final_added_shown}
use Rattle.jc_complete.proofs.final_added_is_shown.Goals as goal

pub returns : goal.returns
returns c = final_added_shown
