use Rattle.jc_report.proofs.Floats.{note_plain}
use Rattle.jc_report.proofs.entry.NoteEntry.value.Goals as goal

pub returns-clause-plain : goal.returns-clause-plain
returns-clause-plain c = note_plain c.args.self.now
