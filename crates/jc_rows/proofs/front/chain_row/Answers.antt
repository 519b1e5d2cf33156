use Rattle.std.proofs.Common.{sym, ◌∙◌, ap, subst, List}
use Rattle.jc_facts.specs.Names.{Bytes}
use Rattle.jc_facts.specs.world.World.{World}
use Rattle.jc_index.specs.Ids.{name_at}
use Rattle.jc_rows.specs.declared.row.RowItem.{RowItem}
use Rattle.jc_rows.specs.steps.Gathering.{row_named}
use Rattle.jc_rows.specs.steps.Merging.{IsMerged}
use Rattle.jc_rows.proofs.Fronts.{chain-None, chain-Some}
use Rattle.jc_rows.proofs.front.chain_row.Goals as goal

pub returns-in_ok-row-in-Some : goal.returns-in_ok-row-in-Some
returns-in_ok-row-in-Some c =
    let W : World = c.args.index.now in
    chain-Some W (name_at W c.args.class) c.facts.result.now (sym c.facts.ensures) c.requires.loads c.in_ok-own.own.items c.args.rows.now c.in-Some.name c.row_of-above.result.now
    c.in_ok-row-in-Some.row.items c.in-Some.is (c.row_of-above.ensures ∙ ap (λ (z : Bytes). row_named W c.args.rows.now z) c.as_bytes.ensures) c.requires.above c.in_ok-own.ensures
    (subst (λ (r : List RowItem). IsMerged r c.row_of-above.result.now c.in_ok-row-in-Some.row.items) c.as_slice.ensures.value c.in_ok-row-in-Some.ensures)

pub returns-in-None : goal.returns-in-None
returns-in-None c =
    let W : World = c.args.index.now in
    chain-None W (name_at W c.args.class) c.facts.result.now (sym c.facts.ensures) c.requires.loads c.in_ok-own.own.items c.in-None.is c.in_ok-own.ensures
