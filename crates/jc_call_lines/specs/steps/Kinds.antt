-- The lines on calls of one kind.
use Rattle.std.specs.Prelude.{◌≡◌, ℕ, List, Option}
use Rattle.jc_call_kinds.specs.declared.call_line.CallKind.{CallKind}
use Rattle.jc_call_kinds.specs.declared.call_line.CallLine.{CallLine}
use Rattle.jc_facts.specs.world.World.{World}
use Rattle.jc_calls.specs.Lines.{LineStands, line_order}
use Rattle.jc_sides.specs.Limit.{IsWithin}

-- the line is of the kind, and due
abbrev pub OfKind : CallKind → World → World → CallLine → Type 0
OfKind kind O N l = (l.kind ≡ kind) × LineStands O N l

-- the list has just the lines of the kind that are due, by class, then by key, within the limit; there is no list where they are more
abbrev pub AreOfKind : CallKind → World → World → Option ℕ → Option (List CallLine) → Type 0
AreOfKind kind O N most made = IsWithin line_order (OfKind kind O N) most made
