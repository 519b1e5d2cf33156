use Rattle.jc_declared.proofs.CaptureAdded.{of_methods}
use Rattle.jc_declared.proofs.capture_added.CaptureAddedItemRule.members.Goals as goal

pub returns : goal.returns
returns c = λ s x covered. of_methods s x
