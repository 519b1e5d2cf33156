use Rattle.std.proofs.Common.{drop}
use Rattle.jc_index.specs.Ids.{name_at}
use Rattle.jc_rows.specs.steps.Settling.{IsSettling}
use Rattle.jc_rows.proofs.methods.settle.Given as goal

abbrev pub invariant-loop-item : goal.invariant-loop-item
invariant-loop-item l = IsSettling l.hierarchy (name_at l.hierarchy l.class) (drop l.item-index l.all) l.row.items
