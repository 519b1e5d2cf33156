use Rattle.std.proofs.Common.{take}
use Rattle.jc_rows.specs.Rows.{IsRow}
use Rattle.jc_rows.specs.steps.Columns.{AreMade}
use Rattle.jc_rows.specs.steps.Fronts.{chain_method}
use Rattle.jc_rows.proofs.columns.chain_rows.Given as goal

abbrev pub invariant-loop-class : goal.invariant-loop-class
invariant-loop-class l = AreMade (λ x. IsRow l.index (chain_method l.index x)) l.index (take l.class-index l.order) l.rows.items
