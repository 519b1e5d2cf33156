use Rattle.jc_sides.proofs.NamedAbove.{interface_unkept}
use Rattle.jc_sides.proofs.classes.base_interfaces.Goals as goal

pub classes_where-requires : goal.classes_where-requires
classes_where-requires c = interface_unkept
