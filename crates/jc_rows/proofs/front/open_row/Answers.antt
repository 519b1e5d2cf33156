use Rattle.jc_rows.proofs.Fronts.{open-end}
use Rattle.jc_rows.proofs.front.open_row.Goals as goal

pub returns : goal.returns
returns c = open-end c.args.row.now c.loop-item.opened.items c.loop-item.item-index c.loop-item-test.false c.loop-item.invariant
