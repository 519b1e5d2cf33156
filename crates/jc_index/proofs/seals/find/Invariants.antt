use Rattle.std.proofs.Common.{◌≤◌, ◌-◌, length}
use Rattle.jc_index.proofs.seals.find.Given as goal

abbrev pub invariant-loop-low : goal.invariant-loop-low
invariant-loop-low l = (l.low ≤ l.high) × (l.high ≤ length l.seals)

abbrev pub decreases-loop-low : goal.decreases-loop-low
decreases-loop-low l = l.high - l.low
