use Rattle.std.proofs.Common.{take}
use Rattle.jc_rows.specs.Rows.{IsFieldRow}
use Rattle.jc_rows.specs.steps.Columns.{AreMade}
use Rattle.jc_rows.proofs.columns.field_rows.Given as goal

abbrev pub invariant-loop-class : goal.invariant-loop-class
invariant-loop-class l = AreMade (IsFieldRow l.index) l.index (take l.class-index l.order) l.rows.items
