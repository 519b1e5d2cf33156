use Rattle.std.proofs.Common.{◌≡◌, take}
use Rattle.std.specs.List.{filter_map}
use Rattle.jc_sides.specs.SharedOf.{name_of}
use Rattle.jc_call_lines.specs.steps.LostLines.{lost_line}
use Rattle.jc_call_lines.proofs.references.on_keys.Given as goal

abbrev pub invariant-loop-key : goal.invariant-loop-key
invariant-loop-key l = l.lines.items ≡ filter_map (lost_line l.sides (name_of l.«class»)) (take l.key-index l.keys)
