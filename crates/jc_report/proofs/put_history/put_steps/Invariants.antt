use Rattle.std.proofs.Common.{◌+◌, drop}
use Rattle.jc_report.specs.HistoryText.{step_lines}
use Rattle.jc_report.proofs.Puts.{Putting}
use Rattle.jc_report.proofs.put_history.put_steps.Given as goal

abbrev pub invariant-loop-i : goal.invariant-loop-i
invariant-loop-i g l = Putting (step_lines (l.i + 1) (drop l.i l.verdicts)) (step_lines 1 l.verdicts) (g.O.Sink.state l.fn.out) (g.O.Sink.state l.out)
