use Rattle.jc_complete.proofs.CompletenessLaws.{interface_became_class_shown}
use Rattle.jc_complete.proofs.interface_became_class_is_shown.Goals as goal

pub returns : goal.returns
returns c = interface_became_class_shown
