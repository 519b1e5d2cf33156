use Rattle.jc_declared.proofs.ChangedClasses.{steady}
use Rattle.jc_declared.proofs.MethodClosed.{of_methods}
use Rattle.jc_declared.proofs.method_closed.MethodClosedItemRule.members.Goals as goal

pub returns : goal.returns
returns c = λ s x covered. of_methods s x (steady s x covered)
