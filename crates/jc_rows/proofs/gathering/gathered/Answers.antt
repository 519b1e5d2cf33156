use Rattle.std.proofs.Common.{◌∙◌, ap, subst, List}
use Rattle.jc_facts.specs.Names.{Bytes}
use Rattle.jc_rows.specs.declared.row.RowItem.{RowItem}
use Rattle.jc_rows.specs.steps.Merging.{IsMerged}
use Rattle.jc_rows.specs.steps.Gathering.{row_named, AddsRows}
use Rattle.jc_rows.proofs.RowsAbove.{gathers-None, gathers-Some}
use Rattle.jc_rows.proofs.gathering.gathered.Goals as goal

pub returns-in_ok-whole-in-Some : goal.returns-in_ok-whole-in-Some
returns-in_ok-whole-in-Some c =
    gathers-Some c.args.index.now c.args.rows.now c.args.facts.now c.args.first.items c.in_ok-row.row.items
    (subst (λ (xs : List Bytes). AddsRows c.args.index.now c.args.rows.now xs c.args.first.items c.in_ok-row.row.items) c.as_slice.ensures c.in_ok-row.ensures)
    c.in-Some.name c.row_of-above.result.now c.in_ok-whole-in-Some.whole.items c.in-Some.is
    (c.row_of-above.ensures ∙ ap (λ (z : Bytes). row_named c.args.index.now c.args.rows.now z) c.as_bytes.ensures)
    (subst (λ (r : List RowItem). IsMerged r c.row_of-above.result.now c.in_ok-whole-in-Some.whole.items) c.as_slice-in-Some.ensures.value c.in_ok-whole-in-Some.ensures)

pub returns-in-None : goal.returns-in-None
returns-in-None c =
    gathers-None c.args.index.now c.args.rows.now c.args.facts.now c.args.first.items c.in_ok-row.row.items
    (subst (λ (xs : List Bytes). AddsRows c.args.index.now c.args.rows.now xs c.args.first.items c.in_ok-row.row.items) c.as_slice.ensures c.in_ok-row.ensures) c.in-None.is
