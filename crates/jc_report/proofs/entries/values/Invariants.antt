use Rattle.std.proofs.Common.{map}
use Rattle.serde_json.specs.View.{view}
use Rattle.jc_report.proofs.Each.{AreMade}
use Rattle.jc_report.proofs.entries.values.Given as goal

abbrev pub invariant-loop-i : goal.invariant-loop-i
invariant-loop-i g l = AreMade g.E.Entry.shaped l.first l.items l.i (map view l.values.items)
