use Rattle.std.proofs.Common.{◌≡◌, map, drop}
use Rattle.jc_sides.specs.SharedOf.{name_of}
use Rattle.jc_acts.specs.steps.Firsts.{first_pair}
use Rattle.jc_acts.specs.steps.LookedUp.{closed_use}
use Rattle.jc_acts.proofs.closing.first_closed.Given as goal

abbrev pub invariant-loop-act : goal.invariant-loop-act
invariant-loop-act l = first_pair (closed_use l.sides (name_of l.class) l.looked) (map name_of l.seats) (drop l.act-index l.acts) ≡ first_pair (closed_use l.sides (name_of l.class) l.looked) (map name_of l.seats) l.acts
