use Rattle.std.proofs.Common.{drop, map}
use Rattle.jc_sides.specs.SharedOf.{name_of}
use Rattle.jc_acts.specs.Touched.{left_chain_of}
use Rattle.jc_acts.proofs.SetFlags.{AreSetBy}
use Rattle.jc_acts.proofs.touched.set_left_by_any.Given as goal

abbrev pub invariant-loop-seat : goal.invariant-loop-seat
invariant-loop-seat l = AreSetBy l.sides.old (left_chain_of l.sides) (map name_of l.seats) (map name_of (drop l.seat-index l.seats)) l.initial.flags.items l.flags.items
