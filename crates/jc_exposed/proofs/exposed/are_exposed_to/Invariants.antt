use Rattle.std.proofs.Common.{◌≡◌, drop}
use Rattle.jc_sides.specs.SharedOf.{name_of}
use Rattle.jc_exposed.specs.Exposed.{are_all_exposed}
use Rattle.jc_exposed.proofs.exposed.are_exposed_to.Given as goal

abbrev pub invariant-loop-id : goal.invariant-loop-id
invariant-loop-id l = are_all_exposed l.sides.old (drop l.id-index l.hidden) (name_of l.seat) ≡ are_all_exposed l.sides.old l.hidden (name_of l.seat)
