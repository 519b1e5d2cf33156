use Rattle.jc_call_lines.specs.steps.JoinLines.{is_below}
use Rattle.jc_call_lines.proofs.JoinLeft.{ArePassing}
use Rattle.jc_call_lines.proofs.joins.below.Given as goal

abbrev pub invariant-loop-n : goal.invariant-loop-n
invariant-loop-n l = ArePassing l.table (is_below l.table l.targets) l.n l.ids.items
