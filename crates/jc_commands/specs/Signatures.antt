-- The notes on generic signatures that a check reports, where they are asked for.
use Rattle.std.specs.Prelude.{List, Bool, true, false, Option, Some, None}
use Rattle.jc_facts.specs.declared.sig_note.SigNote.{SigNote}
use Rattle.jc_facts.specs.Exactly.{HasExactly}
use Rattle.jc_facts.specs.world.World.{World}
use Rattle.jc_sig.specs.Notes.{SigNoteStands, sig_note_order}

-- the list has exactly the notes on the two sides, each once and in their order (JVMS 4.7.9.1)
abbrev pub AreSigNotes : World → World → List SigNote → Type 0
AreSigNotes O N ns = HasExactly sig_note_order (SigNoteStands O N) ns

-- those on the two sides, where they are asked for, and else none
abbrev pub AreNoted : Bool → World → World → Option (List SigNote) → Type 0
AreNoted false O N None = Unit {0}
AreNoted true O N (Some ns) = AreSigNotes O N ns
AreNoted _ O N _ = ⊥
