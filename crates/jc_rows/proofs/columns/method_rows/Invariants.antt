use Rattle.std.proofs.Common.{take}
use Rattle.jc_rows.specs.Rows.{IsMethodRow}
use Rattle.jc_rows.specs.steps.Columns.{AreMade}
use Rattle.jc_rows.proofs.columns.method_rows.Given as goal

abbrev pub invariant-loop-class : goal.invariant-loop-class
invariant-loop-class l = AreMade (IsMethodRow l.hierarchy) l.hierarchy (take l.class-index l.order) l.rows.items
