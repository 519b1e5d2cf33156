use Rattle.jc_sides.proofs.NamedAbove.{steady_unkept}
use Rattle.jc_sides.proofs.classes.steady_classes.Goals as goal

pub classes_where-requires : goal.classes_where-requires
classes_where-requires c = steady_unkept
