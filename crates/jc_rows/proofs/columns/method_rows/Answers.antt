use Rattle.std.proofs.Common.{◌≡◌, ◌<◌, ◌+◌, sym, ◌∙◌, subst, List, ℕ, set, take, true, false}
use Rattle.jc_facts.specs.world.Lookup.{public_method_of_object}
use Rattle.jc_facts.specs.world.World.{World, size}
use Rattle.jc_index.specs.Ids.{name_at}
use Rattle.jc_index.specs.LoadOrder.{IsNext, IsLoadOrder}
use Rattle.jc_rows.specs.declared.row.RowItem.{RowItem}
use Rattle.jc_rows.specs.Rows.{IsRow, IsMethodRow}
use Rattle.jc_rows.specs.WithRows.{has_rows}
use Rattle.jc_rows.specs.steps.Columns.{AreEmpty, AreMade}
use Rattle.jc_rows.specs.steps.Fronts.{chain_method, front_method}
use Rattle.jc_rows.specs.steps.Gathering.{AreRising, HasAbove}
use Rattle.jc_rows.specs.steps.Numbering.{IsNumbering}
use Rattle.jc_rows.proofs.Filling.{next_at, none_made, above_made, goes, passes, all_made, row_there}
use Rattle.jc_rows.proofs.Marking.{mark-below, mark-read}
use Rattle.jc_rows.proofs.columns.method_rows.Goals as goal

pub chain_rows-requires-clause-numbering : goal.chain_rows-requires-clause-numbering
chain_rows-requires-clause-numbering c = subst (λ (v : World). IsNumbering v c.args.numbering.now) (sym c.index-index.ensures) c.requires.numbering

pub chain_rows-requires-clause-order : goal.chain_rows-requires-clause-order
chain_rows-requires-clause-order c = subst (λ (v : World). IsLoadOrder v c.args.order.now) (sym c.index-index.ensures) c.requires.order

pub object_row-requires : goal.object_row-requires
object_row-requires c = subst (λ (v : World). IsNumbering v c.args.numbering.now) (sym c.index-index.ensures) c.requires.numbering

pub loop-class-init : goal.loop-class-init
loop-class-init c =
    none_made (IsMethodRow c.args.hierarchy.now) c.args.hierarchy.now c.in_ok-rows.rows.items
    (subst (λ (v : World). AreEmpty v c.in_ok-rows.rows.items) c.index-index.ensures c.in_ok-rows.ensures)

pub front_row-requires-clause-class : goal.front_row-requires-clause-class
front_row-requires-clause-class c =
    subst (λ (v : World). c.class-item.result < size v) (sym c.index-index.ensures)
    (next_at c.args.hierarchy.now c.args.order.now c.requires.order.each c.loop-class.class-index c.class-item.result c.loop-class-test.true c.class-item.is).within

pub front_row-requires-clause-numbering : goal.front_row-requires-clause-numbering
front_row-requires-clause-numbering c = subst (λ (v : World). IsNumbering v c.args.numbering.now) (sym c.index-index.ensures) c.requires.numbering

pub front_row-requires-clause-chain : goal.front_row-requires-clause-chain
front_row-requires-clause-chain c =
    let V : World = c.index-index.result.now in
    let n : ℕ = c.class-item.result in
    let next : IsNext V (take c.loop-class.class-index c.args.order.now) n =
    subst (λ (v : World). IsNext v (take c.loop-class.class-index c.args.order.now) n) (sym c.index-index.ensures) (next_at c.args.hierarchy.now c.args.order.now c.requires.order.each c.loop-class.class-index n c.loop-class-test.true c.class-item.is)
    in
    subst (IsRow V (chain_method V (name_at V n))) (sym c.as_slice-chain.ensures)
    (row_there (λ x. IsRow V (chain_method V x)) V c.in_ok-chains.chains.items c.in_ok-chains.ensures n c.number-n.result c.number-n.ensures next.within next.loads
    (subst (λ (v : World). has_rows v (name_at v n) ≡ true) (sym c.index-index.ensures) (mark-read c.args.hierarchy.now c.args.made.now c.requires.made c.args.order.now c.requires.order.each c.loop-class.class-index c.class-item.result c.number-n.result c.loop-class-test.true c.class-item.is c.number-n.ensures true c.if-not-made-n.false)) c.index.result.now c.index.ensures)

pub front_row-requires-clause-object : goal.front_row-requires-clause-object
front_row-requires-clause-object c = subst (IsRow c.index-index.result.now (public_method_of_object c.index-index.result.now)) (sym c.as_slice.ensures.value) c.in_ok-object.ensures

pub method_row-requires-clause-class : goal.method_row-requires-clause-class
method_row-requires-clause-class c = (next_at c.args.hierarchy.now c.args.order.now c.requires.order.each c.loop-class.class-index c.class-item.result c.loop-class-test.true c.class-item.is).within

pub method_row-requires-clause-loads : goal.method_row-requires-clause-loads
method_row-requires-clause-loads c = (next_at c.args.hierarchy.now c.args.order.now c.requires.order.each c.loop-class.class-index c.class-item.result c.loop-class-test.true c.class-item.is).loads

pub method_row-requires-clause-keys : goal.method_row-requires-clause-keys
method_row-requires-clause-keys c = c.as_slice-keys.ensures ∙ c.requires.numbering.keys

pub method_row-requires-clause-front : goal.method_row-requires-clause-front
method_row-requires-clause-front c =
    let V : World = c.index-index.result.now in
    let n : ℕ = c.class-item.result in
    subst (λ (v : World). IsRow v (front_method v (name_at v n)) c.as_slice-in-loop-class-2.result.now) c.index-index.ensures
    (subst (IsRow V (front_method V (name_at V n))) (sym c.as_slice-in-loop-class-2.ensures.value) c.in_ok-front.ensures)

pub method_row-requires-clause-rising : goal.method_row-requires-clause-rising
method_row-requires-clause-rising c = subst (AreRising c.args.hierarchy.now) (sym c.as_slice-in-loop-class.ensures.value) c.loop-class.invariant.rising

pub method_row-requires-clause-above : goal.method_row-requires-clause-above
method_row-requires-clause-above c =
    let W : World = c.args.hierarchy.now in
    subst (λ (rows : List (List RowItem)). HasAbove (IsMethodRow W) W rows (name_at W c.class-item.result)) (sym c.as_slice-in-loop-class.ensures.value)
    (above_made (IsMethodRow W) W (take c.loop-class.class-index c.args.order.now) c.loop-class.rows.items c.loop-class.invariant c.count-classes.ensures.side c.class-item.result
    (next_at W c.args.order.now c.requires.order.each c.loop-class.class-index c.class-item.result c.loop-class-test.true c.class-item.is)
    (mark-read W c.args.made.now c.requires.made c.args.order.now c.requires.order.each c.loop-class.class-index c.class-item.result c.number-n.result c.loop-class-test.true c.class-item.is c.number-n.ensures true c.if-not-made-n.false))

pub loop-class-preserved : goal.loop-class-preserved
loop-class-preserved c =
    let W : World = c.args.hierarchy.now in
    let made = subst (IsMethodRow W (name_at W c.class-item.result)) (sym (c.in_ok-rows-2.ensures ∙ c.as_slice-in-loop-class-3.ensures.value)) c.in_ok-methods.ensures in
    subst (λ (n : ℕ). AreMade (IsMethodRow W) W (take (c.loop-class.class-index + 1) c.args.order.now) (set c.loop-class.rows.items n c.in_ok-rows-2.field-0)) (sym c.number-n.ensures)
    (goes (IsMethodRow W) W c.args.order.now c.loop-class.class-index c.class-item.result c.loop-class-test.true c.class-item.is c.requires.order.each c.loop-class.rows.items c.loop-class.invariant
    c.in_ok-rows-2.field-0 (mark-read W c.args.made.now c.requires.made c.args.order.now c.requires.order.each c.loop-class.class-index c.class-item.result c.number-n.result c.loop-class-test.true c.class-item.is c.number-n.ensures true c.if-not-made-n.false) made.rises made)

pub returns : goal.returns
returns c = all_made (IsMethodRow c.args.hierarchy.now) c.args.hierarchy.now c.args.order.now c.requires.order c.loop-class.class-index c.loop-class-test.false c.loop-class.rows.items c.loop-class.invariant

pub bounds-made-n : goal.bounds-made-n
bounds-made-n c = mark-below c.args.hierarchy.now c.args.made.now c.requires.made c.args.order.now c.requires.order.each c.loop-class.class-index c.class-item.result c.number-n.result c.loop-class-test.true c.class-item.is c.number-n.ensures

pub loop-class-preserved-then-not-made-n : goal.loop-class-preserved-then-not-made-n
loop-class-preserved-then-not-made-n c =
    let W : World = c.args.hierarchy.now in
    passes (IsMethodRow W) W c.args.order.now c.loop-class.class-index c.class-item.result c.loop-class-test.true c.class-item.is c.loop-class.rows.items c.loop-class.invariant
    (mark-read W c.args.made.now c.requires.made c.args.order.now c.requires.order.each c.loop-class.class-index c.class-item.result c.number-n.result c.loop-class-test.true c.class-item.is c.number-n.ensures false c.if-not-made-n.true)
