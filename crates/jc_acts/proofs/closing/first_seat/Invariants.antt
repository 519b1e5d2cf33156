use Rattle.std.proofs.Common.{◌≡◌, map, drop}
use Rattle.jc_sides.specs.SharedOf.{name_of}
use Rattle.jc_acts.specs.steps.Firsts.{first_at}
use Rattle.jc_acts.specs.steps.LookedUp.{closed_use}
use Rattle.jc_acts.proofs.closing.first_seat.Given as goal

abbrev pub invariant-loop-seat : goal.invariant-loop-seat
invariant-loop-seat l = first_at (closed_use l.sides (name_of l.class) l.looked l.act) (map name_of (drop l.seat-index l.seats)) ≡ first_at (closed_use l.sides (name_of l.class) l.looked l.act) (map name_of l.seats)
