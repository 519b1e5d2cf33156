use Rattle.jc_sides.proofs.MadeKeys.{sorted_keys}
use Rattle.jc_sides.proofs.item_rule.in_order.Goals as goal

pub returns : goal.returns
returns c = sorted_keys c.args.keys.items c.in_ok-keys.keys.items c.in_ok-set.set c.in_ok-set.ensures c.in_ok-keys.ensures.value c.in_ok-keys.ensures.ordered
