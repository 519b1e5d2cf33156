use Rattle.std.proofs.Common.{◌≡◌, take}
use Rattle.std.specs.List.{filter_map}
use Rattle.jc_index.specs.Ids.{name_at}
use Rattle.jc_call_lines.specs.steps.JoinLines.{join_line}
use Rattle.jc_call_lines.proofs.joins.on_class.Given as goal

abbrev pub invariant-loop-target : goal.invariant-loop-target
invariant-loop-target l = l.lines.items ≡ filter_map (λ t. join_line l.sides (name_at l.sides.old l.«class») (name_at l.sides.old t)) (take l.target-index l.targets)
