use Rattle.std.proofs.Common.{◌≡◌, ◌++◌, ◌+◌, drop}
use Rattle.jc_report.specs.Listing.{lines_from}
use Rattle.jc_report.proofs.entries.lines.Given as goal

abbrev pub invariant-loop-i : goal.invariant-loop-i
invariant-loop-i g l = l.text.items ++ lines_from g.E.Entry.printed (l.first + l.i) (drop l.i l.items) ≡ lines_from g.E.Entry.printed l.first l.items
