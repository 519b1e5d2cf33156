use Rattle.std.proofs.Common.{◌≡◌, false, length, take}
use Rattle.jc_calls.specs.Lines.{line_order}
use Rattle.jc_facts.specs.Exactly.{HasExactly}
use Rattle.jc_index.specs.Ids.{names}
use Rattle.jc_call_kinds.specs.declared.call_line.CallKind.TheVariants.{Joined}
use Rattle.jc_call_kinds.specs.declared.call_line.CallLine.{CallLine}
use Rattle.jc_facts.proofs.Exactly.{OfNames}
use Rattle.jc_sides.specs.Limit.{over}
use Rattle.jc_call_lines.specs.steps.Kinds.{OfKind}
use Rattle.jc_call_lines.proofs.joins.on_classes.Given as goal

abbrev pub invariant-loop-n : goal.invariant-loop-n
invariant-loop-n l = HasExactly line_order (OfNames (λ (m : CallLine). m.«class») (OfKind Joined l.sides.old l.sides.new) (take l.n (names l.sides.old))) l.lines.items × (over (length l.lines.items) l.most ≡ false)
