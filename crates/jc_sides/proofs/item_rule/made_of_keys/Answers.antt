use Rattle.jc_sides.specs.SharedOf.{name_of}
use Rattle.jc_sides.proofs.ByItems.{keys_more}
use Rattle.jc_sides.proofs.MadeKeys.{made_key}
use Rattle.jc_sides.proofs.item_rule.made_of_keys.Goals as goal

pub loop-key-preserved : goal.loop-key-preserved
loop-key-preserved g c =
    keys_more (made_key (g.R.Item.FromBroken.makes g.R.ItemRule.rule c.args.sides.now (name_of c.args.class.now))) c.args.keys.now c.loop-key.key-index c.key-item.result c.in_ok-if_made.field-0 c.loop-key.made.items c.push_some.new.items.items c.loop-key-test.true c.key-item.is
    c.loop-key.invariant c.in_ok-if_made.ensures c.in_ok-push_some.ensures
