use Rattle.jc_complete.proofs.CompletenessLaws.{interface_method_lost_shown}
use Rattle.jc_complete.proofs.interface_method_lost_is_shown.Goals as goal

pub returns : goal.returns
returns c = interface_method_lost_shown
