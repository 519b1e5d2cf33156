use Rattle.jc_complete.proofs.CompletenessLaws.{method_closed_shown}
use Rattle.jc_complete.proofs.method_closed_is_shown.Goals as goal

pub returns : goal.returns
returns c = method_closed_shown
