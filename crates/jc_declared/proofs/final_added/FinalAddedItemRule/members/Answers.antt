use Rattle.jc_declared.proofs.FinalAdded.{of_finals}
use Rattle.jc_declared.proofs.final_added.FinalAddedItemRule.members.Goals as goal

pub returns : goal.returns
returns c = λ s x covered. of_finals s x
