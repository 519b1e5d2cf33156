use Rattle.jc_sides.specs.SharedOf.{name_of}
use Rattle.jc_sides.proofs.ByItems.{keys_more}
use Rattle.jc_sides.proofs.MadeKeys.{made_at, row_end}
use Rattle.jc_sides.proofs.item_rule.made_in_row.Goals as goal

pub loop-item-preserved : goal.loop-item-preserved
loop-item-preserved g c =
    keys_more (made_at (g.R.Item.FromBroken.makes g.R.ItemRule.rule c.args.sides.now (name_of c.args.class.now)) c.args.table.now) c.args.row.now c.loop-item.item-index c.item-item.result c.in_ok-if_made_at.field-0 c.loop-item.made.items c.push_some.new.items.items c.loop-item-test.true c.item-item.is
    c.loop-item.invariant c.in_ok-if_made_at.ensures c.in_ok-push_some.ensures

pub returns : goal.returns
returns g c = row_end (g.R.Item.FromBroken.makes g.R.ItemRule.rule c.args.sides.now (name_of c.args.class.now)) c.args.table.now c.args.row.now c.loop-item.item-index c.loop-item.made.items c.loop-item-test.false c.loop-item.invariant
