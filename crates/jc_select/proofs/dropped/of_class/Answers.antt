use Rattle.jc_select.proofs.DroppedRows.{none_dropped}
use Rattle.jc_select.proofs.dropped.of_class.Goals as goal

pub returns-then-is_empty : goal.returns-then-is_empty
returns-then-is_empty c =
    none_dropped c.args.sides.now c.args.sets.now c.requires.sets c.args.class c.number.result c.index-sets-number.result c.requires.class c.number.ensures c.index-sets-number.is
    (c.is_empty.ensures.0 c.if-is_empty.true) c.new.result.items c.new.ensures.items
