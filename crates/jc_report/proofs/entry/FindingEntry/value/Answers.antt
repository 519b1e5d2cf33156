use Rattle.jc_report.proofs.Floats.{finding_plain}
use Rattle.jc_report.proofs.entry.FindingEntry.value.Goals as goal

pub returns-clause-plain : goal.returns-clause-plain
returns-clause-plain c = finding_plain c.args.number c.args.self.now
