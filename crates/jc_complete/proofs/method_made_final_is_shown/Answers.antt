use Rattle.jc_complete.proofs.CompletenessLaws.{method_made_final_shown}
use Rattle.jc_complete.proofs.method_made_final_is_shown.Goals as goal

pub returns : goal.returns
returns c = method_made_final_shown
