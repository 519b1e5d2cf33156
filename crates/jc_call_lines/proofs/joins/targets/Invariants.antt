use Rattle.jc_call_lines.specs.steps.JoinLines.{is_target}
use Rattle.jc_call_lines.proofs.JoinLeft.{ArePassing}
use Rattle.jc_call_lines.proofs.joins.targets.Given as goal

abbrev pub invariant-loop-n : goal.invariant-loop-n
invariant-loop-n l = ArePassing l.sides.old (is_target l.sides) l.n l.targets.items
