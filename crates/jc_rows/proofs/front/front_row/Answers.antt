use Rattle.std.proofs.Common.{sym, ◌∙◌, subst, List}
use Rattle.jc_index.specs.Ids.{name_at}
use Rattle.jc_rows.specs.declared.row.RowItem.{RowItem}
use Rattle.jc_rows.specs.steps.Merging.{IsMerged}
use Rattle.jc_rows.proofs.Fronts.{front-interface}
use Rattle.jc_rows.proofs.front.front_row.Goals as goal

pub returns-then-is_interface : goal.returns-then-is_interface
returns-then-is_interface c =
    front-interface c.args.index.now (name_at c.args.index.now c.args.class) c.facts.result.now c.facts.ensures (sym c.is_interface.ensures ∙ c.if-is_interface.true) c.in_ok-own.own.items c.args.object.now c.in_ok-row.row.items
    c.in_ok-own.ensures c.requires.object (subst (λ (r : List RowItem). IsMerged r c.args.object.now c.in_ok-row.row.items) c.as_slice.ensures.value c.in_ok-row.ensures)
