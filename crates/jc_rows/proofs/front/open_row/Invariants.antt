use Rattle.std.proofs.Common.{◌≡◌, ◌++◌, drop}
use Rattle.jc_rows.specs.steps.Fronts.{open_items}
use Rattle.jc_rows.proofs.front.open_row.Given as goal

abbrev pub invariant-loop-item : goal.invariant-loop-item
invariant-loop-item l = l.opened.items ++ open_items (drop l.item-index l.row) ≡ open_items l.row
