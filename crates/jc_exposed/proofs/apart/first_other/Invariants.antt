use Rattle.std.proofs.Common.{◌≡◌, map, drop}
use Rattle.std.specs.List.{find as first_where}
use Rattle.jc_sides.specs.SharedOf.{name_of}
use Rattle.jc_index.specs.Ids.{name_at}
use Rattle.jc_exposed.specs.Apart.{is_other_for}
use Rattle.jc_exposed.proofs.apart.first_other.Given as goal

abbrev pub invariant-loop-other : goal.invariant-loop-other
invariant-loop-other l =
    first_where (is_other_for l.sides (name_at l.sides.old l.seat) l.class) (map name_of (drop l.other-index l.others)) ≡ first_where (is_other_for l.sides (name_at l.sides.old l.seat) l.class) (map name_of l.others)
