use Rattle.std.proofs.Common.{take}
use Rattle.jc_acts.proofs.Gathered.{AreDone}
use Rattle.jc_acts.proofs.commons.commons.Given as goal

abbrev pub invariant-loop-seat : goal.invariant-loop-seat
invariant-loop-seat l = AreDone l.old l.new (take l.seat-index l.seats) l.common.items l.added.items
