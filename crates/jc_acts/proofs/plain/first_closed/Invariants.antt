use Rattle.std.proofs.Common.{◌≡◌, drop}
use Rattle.jc_sides.specs.SharedOf.{name_of}
use Rattle.jc_acts.specs.Seats.{all_seats}
use Rattle.jc_acts.specs.steps.Firsts.{first_pair, closed_on}
use Rattle.jc_acts.proofs.plain.first_closed.Given as goal

abbrev pub invariant-loop-act : goal.invariant-loop-act
invariant-loop-act l = first_pair (closed_on l.sides (name_of l.class) l.key) (all_seats l.sides) (drop l.act-index l.acts) ≡ first_pair (closed_on l.sides (name_of l.class) l.key) (all_seats l.sides) l.acts
