use Rattle.std.proofs.Common.{◌≡◌, ◌++◌}
use Rattle.jc_used.specs.Lines.{findings_in}
use Rattle.jc_used.proofs.lines.findings_in.Given as goal

abbrev pub invariant-loop-line : goal.invariant-loop-line
invariant-loop-line l = l.findings.items ++ findings_in l.line-iterator.rest.items ≡ findings_in l.fn.lines.items
