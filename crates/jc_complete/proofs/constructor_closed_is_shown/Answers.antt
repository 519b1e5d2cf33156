use Rattle.jc_complete.proofs.CompletenessLaws.{constructor_closed_shown}
use Rattle.jc_complete.proofs.constructor_closed_is_shown.Goals as goal

pub returns : goal.returns
returns c = constructor_closed_shown
