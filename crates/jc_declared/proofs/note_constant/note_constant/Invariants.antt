use Rattle.std.proofs.Common.{take}
use Rattle.jc_facts.proofs.Exactly.{OfNames}
use Rattle.jc_facts.specs.Exactly.{HasExactly}
use Rattle.jc_facts.specs.Orders.{note_order, noted_class}
use Rattle.jc_index.specs.Ids.{names}
use Rattle.jc_declared.specs.steps.Notes.{IsConstantNote}
use Rattle.jc_declared.proofs.note_constant.note_constant.Given as goal

abbrev pub invariant-loop-n : goal.invariant-loop-n
invariant-loop-n l = HasExactly note_order (OfNames noted_class (IsConstantNote l.sides) (take l.n (names l.sides.old))) l.notes.items
