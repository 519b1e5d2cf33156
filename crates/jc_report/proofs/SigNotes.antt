-- The objects of notes on generic signatures.
use Rattle.std.proofs.Common.{◌≡◌, false, None, refl}
use Rattle.serde_json.specs.Written.{has_float}
use Rattle.jc_facts.specs.declared.sig_note.SigNote.{SigNote}
use Rattle.jc_report.specs.SigForms.{sig_note_json}
use Rattle.jc_report.proofs.Floats.{member_plain}

pub sig_note_plain : (n : SigNote) → has_float (sig_note_json n) ≡ false
sig_note_plain n = rw (member_plain n.key None) refl
