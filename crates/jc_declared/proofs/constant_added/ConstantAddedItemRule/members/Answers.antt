use Rattle.jc_declared.proofs.ConstantAdded.{of_fields}
use Rattle.jc_declared.proofs.constant_added.ConstantAddedItemRule.members.Goals as goal

pub returns : goal.returns
returns c = λ s x covered. of_fields s x
