use Rattle.std.proofs.Common.{◌≡◌, false, length, take}
use Rattle.std.specs.List.{filter_map}
use Rattle.jc_index.specs.Ids.{names}
use Rattle.jc_sides.specs.Limit.{over}
use Rattle.jc_call_lines.specs.steps.ConstantLines.{constants_line}
use Rattle.jc_call_lines.proofs.constants.constants.Given as goal

abbrev pub invariant-loop-n : goal.invariant-loop-n
invariant-loop-n l = (l.lines.items ≡ filter_map (constants_line l.sides) (take l.n (names l.sides.old))) × (over (length l.lines.items) l.most ≡ false)
