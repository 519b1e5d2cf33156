use Rattle.std.proofs.Common.{◌≡◌, map, drop}
use Rattle.std.specs.List.{find as first_where}
use Rattle.jc_sides.specs.SharedOf.{name_of}
use Rattle.jc_exposed.specs.Exposed.{are_all_exposed}
use Rattle.jc_exposed.proofs.exposed.first_of.Given as goal

abbrev pub invariant-loop-seat : goal.invariant-loop-seat
invariant-loop-seat l = first_where (are_all_exposed l.sides.old l.hidden) (map name_of (drop l.seat-index l.seats)) ≡ first_where (are_all_exposed l.sides.old l.hidden) (map name_of l.seats)
