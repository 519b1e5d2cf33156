use Rattle.jc_declared.proofs.ChangedClasses.{steady}
use Rattle.jc_declared.proofs.FieldClosed.{of_fields}
use Rattle.jc_declared.proofs.field_closed.FieldClosedItemRule.members.Goals as goal

pub returns : goal.returns
returns c = λ s x covered. of_fields s x (steady s x covered)
