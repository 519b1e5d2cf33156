use Rattle.std.proofs.Common.{length}
use Rattle.jc_report.proofs.Puts.{Putting}
use Rattle.jc_report.proofs.put_lines.put_lines.Given as goal

abbrev pub invariant-loop-rest : goal.invariant-loop-rest
invariant-loop-rest g l = Putting l.rest l.text (g.O.Sink.state l.fn.out) (g.O.Sink.state l.out)

abbrev pub decreases-loop-rest : goal.decreases-loop-rest
decreases-loop-rest g l = length l.rest
