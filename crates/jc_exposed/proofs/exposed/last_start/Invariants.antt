use Rattle.std.proofs.Common.{◌≡◌, take, false}
use Rattle.std.specs.List.{list_any}
use Rattle.jc_acts.specs.Seats.{all_seats}
use Rattle.jc_exposed.specs.Exposed.{are_all_exposed}
use Rattle.jc_exposed.proofs.exposed.last_start.Given as goal

abbrev pub invariant-loop-id : goal.invariant-loop-id
invariant-loop-id l = list_any (are_all_exposed l._sides.old l.hidden) (take l.start (all_seats l._sides)) ≡ false
