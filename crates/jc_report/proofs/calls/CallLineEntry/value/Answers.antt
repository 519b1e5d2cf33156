use Rattle.jc_report.proofs.CallLines.{call_value_plain}
use Rattle.jc_report.proofs.calls.CallLineEntry.value.Goals as goal

pub returns-clause-plain : goal.returns-clause-plain
returns-clause-plain c = call_value_plain c.args.self.now
