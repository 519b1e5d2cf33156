use Rattle.jc_declared.proofs.ChangedClasses.{base_interface}
use Rattle.jc_declared.proofs.InterfaceMethodLost.{of_methods}
use Rattle.jc_declared.proofs.interface_method_lost.InterfaceMethodLostItemRule.members.Goals as goal

pub returns : goal.returns
returns c = λ s x covered. of_methods s x (base_interface s x covered)
