use Rattle.std.proofs.Common.{arith}
use Rattle.jc_loading.proofs.supertypes.is_no_interface.Goals as goal

pub returns-else-not-is_interface : goal.returns-else-not-is_interface
returns-else-not-is_interface c = grind (arith, c.is_sealed_to.ensures)
