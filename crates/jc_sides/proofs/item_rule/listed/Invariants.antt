use Rattle.std.proofs.Common.{◌≡◌, ◌++◌}
use Rattle.jc_sides.proofs.item_rule.listed.Given as goal

abbrev pub invariant-loop-key : goal.invariant-loop-key
invariant-loop-key l = l.fn.set.keys ≡ l.keys.items ++ l.key-iterator
