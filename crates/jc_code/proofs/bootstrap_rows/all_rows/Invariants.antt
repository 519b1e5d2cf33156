use Rattle.std.proofs.Common.{◌≡◌, ◌++◌, drop}
use Rattle.std.specs.Prelude.{map}
use Rattle.jc_attr.specs.Views.{bootstrap_view}
use Rattle.jc_code.specs.steps.Kept.{kept_row}
use Rattle.jc_code.specs.steps.RowView.{row_view}
use Rattle.jc_code.proofs.bootstrap_rows.all_rows.Given as goal

abbrev pub invariant-loop-entry : goal.invariant-loop-entry
invariant-loop-entry l = map (λ x. row_view x) l.rows.items ++ map (λ b. kept_row l.pool (bootstrap_view b)) (drop l.entry-index l.entries) ≡ map (λ b. kept_row l.pool (bootstrap_view b)) l.entries
