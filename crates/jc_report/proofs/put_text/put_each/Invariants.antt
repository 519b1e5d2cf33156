use Rattle.std.proofs.Common.{◌+◌, drop}
use Rattle.jc_report.specs.Listing.{lines_from}
use Rattle.jc_report.specs.steps.Fronted.{fronted}
use Rattle.jc_report.proofs.Puts.{Putting}
use Rattle.jc_report.proofs.put_text.put_each.Given as goal

abbrev pub invariant-loop-i : goal.invariant-loop-i
invariant-loop-i g l =
    Putting (lines_from (fronted l.front g.E.Entry.printed) (l.first + l.i) (drop l.i l.items)) (lines_from (fronted l.front g.E.Entry.printed) l.first l.items) (g.O.Sink.state l.fn.out) (g.O.Sink.state l.out)
