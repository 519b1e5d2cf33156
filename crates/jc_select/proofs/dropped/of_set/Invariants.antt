use Rattle.std.proofs.Common.{◌≡◌, ℕ, List, ◌++◌, map}
use Rattle.std.specs.List.{filter_map}
use Rattle.jc_index.specs.Ids.{name_at}
use Rattle.jc_select.specs.steps.Losing.{dropped_at}
use Rattle.jc_select.proofs.dropped.of_set.Given as goal

abbrev pub invariant-loop-of : goal.invariant-loop-of
invariant-loop-of l = (front : List ℕ) × (l.fn.set.keys ≡ front ++ l.of-iterator)
    × (l.dropped.items ≡ filter_map (dropped_at l.sides (name_at l.sides.old l.class)) (map (name_at l.sides.old) front))
