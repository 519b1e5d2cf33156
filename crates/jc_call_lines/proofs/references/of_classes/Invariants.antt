use Rattle.std.proofs.Common.{◌≡◌, false, length, take, map}
use Rattle.jc_calls.specs.Lines.{line_order}
use Rattle.jc_facts.specs.Exactly.{HasExactly}
use Rattle.jc_call_kinds.specs.declared.call_line.CallLine.{CallLine}
use Rattle.jc_facts.proofs.Exactly.{OfNames}
use Rattle.jc_sides.specs.Limit.{over}
use Rattle.jc_sides.specs.SharedOf.{name_of}
use Rattle.jc_call_lines.proofs.LostLines.{OfReference}
use Rattle.jc_call_lines.proofs.references.of_classes.Given as goal

abbrev pub invariant-loop-class : goal.invariant-loop-class
invariant-loop-class l =
    HasExactly line_order (OfNames (λ (m : CallLine). m.«class») (OfReference l.sides) (take l.class-index (map name_of l.classes))) l.lines.items
    × (over (length l.lines.items) l.most ≡ false)
