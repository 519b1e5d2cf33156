use Rattle.std.proofs.Common.{sym, ◌∙◌, ap, List}
use Rattle.jc_facts.specs.world.World.{World}
use Rattle.jc_rows.specs.declared.row.RowItem.{RowItem}
use Rattle.jc_rows.specs.steps.Fronts.{open_items}
use Rattle.jc_rows.proofs.Fronts.{no_object, object_rows, own_object, object_is}
use Rattle.jc_rows.proofs.front.object_row.Goals as goal

pub returns-in_default : goal.returns-in_default
returns-in_default c = no_object c.args.index.now (sym c.get.ensures.value ∙ c.in_default.is) c.new.result.items c.new.ensures.items

pub returns : goal.returns
returns c =
    let W : World = c.args.index.now in
    object_is W c.in_ok-own.own.items c.in_ok-row.row.items (c.in_ok-row.ensures ∙ ap (λ (r : List RowItem). open_items r) c.as_slice.ensures.value)
    (own_object W c.in-Some.object (sym c.get.ensures.value ∙ c.in-Some.is) c.in_ok-own.own.items c.in_ok-own.ensures)

pub own_methods-requires-clause-rows : goal.own_methods-requires-clause-rows
own_methods-requires-clause-rows c =
    let W : World = c.args.index.now in
    object_rows W c.count-classes.ensures.side c.in-Some.object (sym c.get.ensures.value ∙ c.in-Some.is)
