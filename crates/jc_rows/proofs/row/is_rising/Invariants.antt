use Rattle.std.proofs.Common.{take}
use Rattle.jc_rows.specs.Rows.{Rises}
use Rattle.jc_rows.proofs.row.is_rising.Given as goal

abbrev pub invariant-loop-at : goal.invariant-loop-at
invariant-loop-at l = Rises (take l.at l.items)
