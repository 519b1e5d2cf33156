use Rattle.std.proofs.Common.{◌/◌, length, sym, subst}
use Rattle.jc_rows.specs.steps.Merging.{IsRowOf}
use Rattle.jc_rows.proofs.Searching.{short, as_they_are, joins}
use Rattle.jc_rows.proofs.row.+sorted.Goals as goal
use Rattle.jc_rows.proofs.row.+sorted.Goals.{then-items-le1-via-then-items-le1, then-items-le1-via-else-items-le1+then-is_rising}

pub returns-then-items-le1 : goal.returns-then-items-le1
returns-then-items-le1 t c = elim c.then-items-le1.branch [
  | then-items-le1-via-then-items-le1 w ↦ short c.args.items.now c.in_ok-row.row.items c.in_ok-row.ensures.items w.if-items-le1.true
  | then-items-le1-via-else-items-le1+then-is_rising w ↦ as_they_are c.args.items.now c.in_ok-row.row.items c.in_ok-row.ensures.items (w.is_rising.ensures w.if-is_rising.true)
]

pub returns : goal.returns
returns t c =
    joins c.args.items.now c.split_at.result.0.now c.split_at.result.1.now c.as_slice.result.now c.as_slice-2.result.now c.in_ok-row-2.row.items (length c.args.items.now / 2) c.split_at.ensures.front c.split_at.ensures.back
    (subst (IsRowOf c.split_at.result.0.now) (sym c.as_slice.ensures.value) c.in_ok-first.ensures) (subst (IsRowOf c.split_at.result.1.now) (sym c.as_slice-2.ensures.value) c.in_ok-second.ensures) c.in_ok-row-2.ensures
