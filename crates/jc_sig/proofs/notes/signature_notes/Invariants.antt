use Rattle.std.proofs.Common.{take}
use Rattle.jc_facts.specs.Exactly.{HasExactly}
use Rattle.jc_index.specs.Ids.{names}
use Rattle.jc_sig.specs.Notes.{sig_note_order}
use Rattle.jc_sig.proofs.SideNotes.{OfThese}
use Rattle.jc_sig.proofs.notes.signature_notes.Given as goal

abbrev pub invariant-loop-n : goal.invariant-loop-n
invariant-loop-n l = HasExactly sig_note_order (OfThese l.old l.new (take l.n (names l.old))) l.notes.items
