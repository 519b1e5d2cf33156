use Rattle.jc_declared.proofs.ChangedClasses.{steady}
use Rattle.jc_declared.proofs.ConstructorClosed.{of_inits}
use Rattle.jc_declared.proofs.constructor_closed.ConstructorClosedItemRule.members.Goals as goal

pub returns : goal.returns
returns c = λ s x covered. of_inits s x (steady s x covered)
