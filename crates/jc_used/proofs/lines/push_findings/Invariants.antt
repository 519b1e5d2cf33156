use Rattle.std.proofs.Common.{◌≡◌, ◌++◌, map}
use Rattle.jc_used.specs.Lines.{line_of}
use Rattle.jc_used.proofs.lines.push_findings.Given as goal

abbrev pub invariant-loop-finding : goal.invariant-loop-finding
invariant-loop-finding l = l.lines.items ++ map (line_of l.side) l.finding-iterator.rest.items ≡ l.fn.lines.items ++ map (line_of l.side) l.fn.findings.items
