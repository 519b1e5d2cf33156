use Rattle.jc_report.proofs.SigNotes.{sig_note_plain}
use Rattle.jc_report.proofs.sig_notes.SigNoteEntry.value.Goals as goal

pub returns-clause-plain : goal.returns-clause-plain
returns-clause-plain c = sig_note_plain c.args.self.now
