use Rattle.std.proofs.Common.{sym, subst}
use Rattle.jc_rows.specs.Rows.{Rises}
use Rattle.jc_rows.proofs.RowsAbove.{named-rises}
use Rattle.jc_rows.proofs.agreeing.entry_of.Goals as goal

pub find-requires : goal.find-requires
find-requires c = subst Rises (sym c.row_of.ensures) (named-rises c.args.index.now c.args.rows.now c.as_bytes.result.now c.requires)
