use Rattle.std.proofs.Common.{◌≡◌, map, take}
use Rattle.std.specs.List.{All}
use Rattle.jc_index.specs.steps.Order.{IsPlace, names_at}
use Rattle.jc_index.proofs.order.places.Given as goal

abbrev pub invariant-loop-at : goal.invariant-loop-at
invariant-loop-at l = (map (λ p. p.0) l.places.items ≡ names_at (take l.at l.classes)) × All (IsPlace l.classes) l.places.items
