use Rattle.std.proofs.Common.{arith}
use Rattle.jc_loading.proofs.supertypes.is_no_superclass.Goals as goal

pub returns-else-is_final : goal.returns-else-is_final
returns-else-is_final c = grind (arith, c.is_sealed_to.ensures)
