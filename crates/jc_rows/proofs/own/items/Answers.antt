use Rattle.jc_rows.proofs.OwnMembers.{items_all}
use Rattle.jc_rows.proofs.own.items.Goals as goal

pub returns : goal.returns
returns c = items_all c.args.class c.args.numbers.now c.args.members.now c.loop-at.items.items c.loop-at.at c.loop-at-test.false c.loop-at.invariant
