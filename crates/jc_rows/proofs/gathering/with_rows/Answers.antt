use Rattle.std.proofs.Common.{refl, sym, ◌∙◌, ap, subst, List}
use Rattle.jc_facts.specs.Names.{Bytes}
use Rattle.jc_rows.specs.declared.row.RowItem.{RowItem}
use Rattle.jc_rows.specs.Rows.{Rises}
use Rattle.jc_rows.specs.steps.Merging.{IsMerged}
use Rattle.jc_rows.specs.steps.Gathering.{row_named}
use Rattle.jc_rows.proofs.RowsAbove.{named-rises, adding-starts, adding-goes, adding-ends}
use Rattle.jc_rows.proofs.gathering.with_rows.Goals as goal

pub loop-name-init : goal.loop-name-init
loop-name-init c = adding-starts c.args.index.now c.args.rows.now c.args.names.now c.args.first.items 0 refl c.requires.rises

pub merge-requires-clause-second : goal.merge-requires-clause-second
merge-requires-clause-second c = subst Rises (sym c.row_of-above.ensures) (named-rises c.args.index.now c.args.rows.now c.as_bytes.result.now c.requires.rising)

pub loop-name-preserved : goal.loop-name-preserved
loop-name-preserved c =
    adding-goes c.args.index.now c.args.rows.now c.args.names.now c.args.first.items c.loop-name.name-index c.name-item.result c.row_of-above.result.now c.loop-name.row.items c.in_ok-row.row.items c.loop-name-test.true c.name-item.is
    (c.row_of-above.ensures ∙ ap (λ (x : Bytes). row_named c.args.index.now c.args.rows.now x) c.as_bytes.ensures)
    (subst (λ (r : List RowItem). IsMerged r c.row_of-above.result.now c.in_ok-row.row.items) c.as_slice.ensures.value c.in_ok-row.ensures)
    c.loop-name.invariant

pub returns : goal.returns
returns c = adding-ends c.args.index.now c.args.rows.now c.args.names.now c.args.first.items c.loop-name.name-index c.loop-name.row.items c.loop-name-test.false c.loop-name.invariant
