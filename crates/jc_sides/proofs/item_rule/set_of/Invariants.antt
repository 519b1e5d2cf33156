use Rattle.std.proofs.Common.{◌≡◌, List, ◌++◌}
use Rattle.jc_facts.specs.declared.key.Key.{Key}
use Rattle.jc_facts.specs.Seen.{Holds}
use Rattle.jc_sides.proofs.item_rule.set_of.Given as goal

abbrev pub invariant-loop-key : goal.invariant-loop-key
invariant-loop-key l = (seen : List Key) × Holds l.set seen × (seen ++ l.key-iterator.rest.items ≡ l.fn.keys.items)
