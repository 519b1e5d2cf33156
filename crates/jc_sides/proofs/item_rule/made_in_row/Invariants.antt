use Rattle.std.proofs.Common.{◌≡◌, take}
use Rattle.std.specs.List.{filter_map}
use Rattle.jc_sides.specs.SharedOf.{name_of}
use Rattle.jc_sides.proofs.MadeKeys.{made_at}
use Rattle.jc_sides.proofs.item_rule.made_in_row.Given as goal

abbrev pub invariant-loop-item : goal.invariant-loop-item
invariant-loop-item g l = l.made.items ≡ filter_map (made_at (g.R.Item.FromBroken.makes g.R.ItemRule.rule l.sides (name_of l.class)) l.table) (take l.item-index l.row)
