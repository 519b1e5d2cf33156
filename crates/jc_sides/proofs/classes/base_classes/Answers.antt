use Rattle.jc_sides.proofs.NamedAbove.{class_unkept}
use Rattle.jc_sides.proofs.classes.base_classes.Goals as goal

pub classes_where-requires : goal.classes_where-requires
classes_where-requires c = class_unkept
