use Rattle.jc_rows.proofs.Standing.{standing-on, standing-ends}
use Rattle.jc_rows.proofs.with_rows.mark_standing.Goals as goal

pub loop-class-preserved : goal.loop-class-preserved
loop-class-preserved c =
    standing-on c.args.index.now c.count-classes.ensures.side c.args.order.now c.requires.order c.loop-class.class-index c.class-item.result c.number.result c.loop-class-test.true c.class-item.is c.number.ensures
    c.loop-class.made c.stands.result c.stands.ensures c.loop-class.invariant

pub returns : goal.returns
returns c = standing-ends c.args.index.now c.count-classes.ensures.side c.args.order.now c.requires.order c.loop-class.class-index c.loop-class-test.false c.loop-class.made c.loop-class.invariant
