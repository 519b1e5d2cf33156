use Rattle.std.proofs.Common.{◌≡◌, false, length, take, map}
use Rattle.jc_facts.specs.Exactly.{HasExactly}
use Rattle.jc_facts.proofs.Exactly.{OfNames}
use Rattle.jc_sides.specs.Limit.{over}
use Rattle.jc_sides.specs.SharedOf.{name_of}
use Rattle.jc_sides.proofs.item_rule.by_items.Given as goal

abbrev pub invariant-loop-class : goal.invariant-loop-class
invariant-loop-class g l =
    HasExactly g.R.Item.FromBroken.order (OfNames g.R.Item.FromBroken.class_of (g.R.Item.FromBroken.stands g.R.ItemRule.rule l.sides) (take l.class-index (map name_of l.classes))) l.items.items
    × (over (length l.items.items) l.most ≡ false)
