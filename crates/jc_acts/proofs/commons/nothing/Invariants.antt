use Rattle.std.proofs.Common.{◌≡◌, None, length}
use Rattle.std.specs.List.{All}
use Rattle.jc_acts.proofs.commons.nothing.Given as goal

abbrev pub invariant-loop : goal.invariant-loop
invariant-loop l = record {
  count : length l.places.items ≡ l.counter;
  empty : All (λ p. p ≡ None) l.places.items;
}
