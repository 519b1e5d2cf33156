use Rattle.jc_complete.proofs.CompletenessLaws.{class_gone_shown}
use Rattle.jc_complete.proofs.class_gone_is_shown.Goals as goal

pub returns : goal.returns
returns c = class_gone_shown
