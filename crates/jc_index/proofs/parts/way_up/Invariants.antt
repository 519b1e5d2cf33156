use Rattle.std.proofs.Common.{◌<◌, length}
use Rattle.std.specs.List.{All}
use Rattle.jc_index.proofs.parts.way_up.Given as goal

abbrev pub invariant-loop : goal.invariant-loop
invariant-loop l = (l.at < length l.edges) × All (λ id. id < length l.edges) l.way.items
