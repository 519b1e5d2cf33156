use Rattle.std.proofs.Common.{◌≡◌, map, drop}
use Rattle.std.specs.List.{find as first_where}
use Rattle.jc_sides.specs.SharedOf.{name_of}
use Rattle.jc_exposed.specs.Apart.{hands_on}
use Rattle.jc_exposed.proofs.apart.first_handing.Given as goal

abbrev pub invariant-loop-seat : goal.invariant-loop-seat
invariant-loop-seat l =
    first_where (hands_on l.sides l.from l.to (map name_of l.others)) (map name_of (drop l.seat-index l.seats)) ≡ first_where (hands_on l.sides l.from l.to (map name_of l.others)) (map name_of l.seats)
