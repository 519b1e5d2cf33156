use Rattle.std.proofs.Common.{drop}
use Rattle.jc_rows.specs.steps.Gathering.{IsAdding}
use Rattle.jc_rows.proofs.gathering.with_rows.Given as goal

abbrev pub invariant-loop-name : goal.invariant-loop-name
invariant-loop-name l = IsAdding l.index l.rows l.names l.fn.first.items (drop l.name-index l.names) l.row.items
