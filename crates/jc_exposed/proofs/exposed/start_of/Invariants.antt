use Rattle.std.proofs.Common.{◌≡◌, take, false}
use Rattle.std.specs.List.{list_any}
use Rattle.jc_sides.specs.SharedOf.{SharedOf, name_of}
use Rattle.jc_exposed.specs.Rows.{exposes_in}
use Rattle.jc_exposed.proofs.exposed.start_of.Given as goal

abbrev pub invariant-loop-seat : goal.invariant-loop-seat
invariant-loop-seat l = (l.start ≡ l.seat-index) × (list_any (λ (z : SharedOf). exposes_in l.sides.old l.rows (name_of z) l.id) (take l.seat-index l.seats) ≡ false)
