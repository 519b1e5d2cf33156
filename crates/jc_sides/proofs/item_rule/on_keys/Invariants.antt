use Rattle.std.proofs.Common.{◌≡◌, take}
use Rattle.std.specs.List.{filter_map}
use Rattle.jc_sides.specs.SharedOf.{name_of}
use Rattle.jc_sides.proofs.item_rule.on_keys.Given as goal

abbrev pub invariant-loop-key : goal.invariant-loop-key
invariant-loop-key g l = l.items.items ≡ filter_map (g.R.Item.FromBroken.makes g.R.ItemRule.rule l.sides (name_of l.class)) (take l.key-index l.keys)
