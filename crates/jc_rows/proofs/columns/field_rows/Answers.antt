use Rattle.std.proofs.Common.{sym, ◌∙◌, ◌+◌, subst, List, ℕ, set, take, true, false}
use Rattle.jc_facts.specs.world.World.{World}
use Rattle.jc_index.specs.Ids.{name_at}
use Rattle.jc_rows.specs.declared.row.RowItem.{RowItem}
use Rattle.jc_rows.specs.Rows.{IsFieldRow}
use Rattle.jc_rows.specs.steps.Columns.{AreMade}
use Rattle.jc_rows.specs.steps.Gathering.{AreRising, HasAbove}
use Rattle.jc_rows.proofs.Filling.{next_at, none_made, above_made, goes, passes, all_made}
use Rattle.jc_rows.proofs.Marking.{mark-below, mark-read}
use Rattle.jc_rows.proofs.columns.field_rows.Goals as goal

pub loop-class-init : goal.loop-class-init
loop-class-init c = none_made (IsFieldRow c.args.index.now) c.args.index.now c.in_ok-rows.rows.items c.in_ok-rows.ensures

pub field_row-requires-clause-class : goal.field_row-requires-clause-class
field_row-requires-clause-class c = (next_at c.args.index.now c.args.order.now c.requires.order.each c.loop-class.class-index c.class-item.result c.loop-class-test.true c.class-item.is).within

pub field_row-requires-clause-loads : goal.field_row-requires-clause-loads
field_row-requires-clause-loads c = (next_at c.args.index.now c.args.order.now c.requires.order.each c.loop-class.class-index c.class-item.result c.loop-class-test.true c.class-item.is).loads

pub field_row-requires-clause-rising : goal.field_row-requires-clause-rising
field_row-requires-clause-rising c = subst (AreRising c.args.index.now) (sym c.as_slice.ensures.value) c.loop-class.invariant.rising

pub field_row-requires-clause-above : goal.field_row-requires-clause-above
field_row-requires-clause-above c =
    let W : World = c.args.index.now in
    subst (λ (rows : List (List RowItem)). HasAbove (IsFieldRow W) W rows (name_at W c.class-item.result)) (sym c.as_slice.ensures.value)
    (above_made (IsFieldRow W) W (take c.loop-class.class-index c.args.order.now) c.loop-class.rows.items c.loop-class.invariant c.count-classes.ensures.side c.class-item.result
    (next_at W c.args.order.now c.requires.order.each c.loop-class.class-index c.class-item.result c.loop-class-test.true c.class-item.is)
    (mark-read W c.args.made.now c.requires.made c.args.order.now c.requires.order.each c.loop-class.class-index c.class-item.result c.number-n.result c.loop-class-test.true c.class-item.is c.number-n.ensures true c.if-not-made-n.false))

pub loop-class-preserved : goal.loop-class-preserved
loop-class-preserved c =
    let W : World = c.args.index.now in
    let made = subst (IsFieldRow W (name_at W c.class-item.result)) (sym (c.in_ok-rows-2.ensures ∙ c.as_slice-in-loop-class.ensures.value)) c.in_ok-row.ensures in
    subst (λ (n : ℕ). AreMade (IsFieldRow W) W (take (c.loop-class.class-index + 1) c.args.order.now) (set c.loop-class.rows.items n c.in_ok-rows-2.field-0)) (sym c.number-n.ensures)
    (goes (IsFieldRow W) W c.args.order.now c.loop-class.class-index c.class-item.result c.loop-class-test.true c.class-item.is c.requires.order.each c.loop-class.rows.items c.loop-class.invariant
    c.in_ok-rows-2.field-0 (mark-read W c.args.made.now c.requires.made c.args.order.now c.requires.order.each c.loop-class.class-index c.class-item.result c.number-n.result c.loop-class-test.true c.class-item.is c.number-n.ensures true c.if-not-made-n.false) made.rises made)

pub returns : goal.returns
returns c = all_made (IsFieldRow c.args.index.now) c.args.index.now c.args.order.now c.requires.order c.loop-class.class-index c.loop-class-test.false c.loop-class.rows.items c.loop-class.invariant

pub bounds-made-n : goal.bounds-made-n
bounds-made-n c = mark-below c.args.index.now c.args.made.now c.requires.made c.args.order.now c.requires.order.each c.loop-class.class-index c.class-item.result c.number-n.result c.loop-class-test.true c.class-item.is c.number-n.ensures

pub loop-class-preserved-then-not-made-n : goal.loop-class-preserved-then-not-made-n
loop-class-preserved-then-not-made-n c =
    let W : World = c.args.index.now in
    passes (IsFieldRow W) W c.args.order.now c.loop-class.class-index c.class-item.result c.loop-class-test.true c.class-item.is c.loop-class.rows.items c.loop-class.invariant
    (mark-read W c.args.made.now c.requires.made c.args.order.now c.requires.order.each c.loop-class.class-index c.class-item.result c.number-n.result c.loop-class-test.true c.class-item.is c.number-n.ensures false c.if-not-made-n.true)

pub field_row-requires-clause-rows : goal.field_row-requires-clause-rows
field_row-requires-clause-rows c = mark-read c.args.index.now c.args.made.now c.requires.made c.args.order.now c.requires.order.each c.loop-class.class-index c.class-item.result c.number-n.result c.loop-class-test.true c.class-item.is c.number-n.ensures true c.if-not-made-n.false
