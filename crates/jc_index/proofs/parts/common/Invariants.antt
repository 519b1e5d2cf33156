use Rattle.std.proofs.Common.{◌≡◌, ◌≤◌, take, length}
use Rattle.jc_index.proofs.parts.common.Given as goal

abbrev pub invariant-loop-at : goal.invariant-loop-at
invariant-loop-at l = (l.at ≤ length l.ids) × (take l.at l.ids ≡ take l.at l.numbers)
