use Rattle.std.proofs.Common.{◌-◌, ◌+◌, ◌≤◌, length, drop}
use Rattle.jc_rows.specs.steps.Merging.{IsUnderWay}
use Rattle.jc_rows.proofs.row.merge.Given as goal

abbrev pub invariant-loop-i : goal.invariant-loop-i
invariant-loop-i l = record {
  within_first : l.i ≤ length l.first;
  within_second : l.j ≤ length l.second;
  under_way : IsUnderWay l.first l.second l.row.items (drop l.i l.first) (drop l.j l.second);
}

abbrev pub decreases-loop-i : goal.decreases-loop-i
decreases-loop-i l = (length l.first - l.i) + (length l.second - l.j)
