use Rattle.jc_complete.proofs.CompletenessLaws.{field_closed_shown}
use Rattle.jc_complete.proofs.field_closed_is_shown.Goals as goal

pub returns : goal.returns
returns c = field_closed_shown
