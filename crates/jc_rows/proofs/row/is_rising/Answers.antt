use Rattle.std.proofs.Common.{arith, ap}
use Rattle.jc_rows.specs.declared.row.RowItem.{RowItem}
use Rattle.jc_rows.proofs.Searching.{rises_first, rises_on, rises_all}
use Rattle.jc_rows.proofs.row.is_rising.Goals as goal

pub loop-at-init : goal.loop-at-init
loop-at-init c = rises_first c.args.items.now

pub loop-at-preserved : goal.loop-at-preserved
loop-at-preserved c =
    let x = ap (λ (i : RowItem). i.key) c.index-items-at.is in
    let y = ap (λ (i : RowItem). i.key) c.index-items-at-in-loop-at.is in
    rises_on c.args.items.now c.loop-at.at c.index-items-at.result c.index-items-at-in-loop-at.result (omega (arith, c.loop-at.auto.at)) c.loop-at-test.true c.index-items-at.is c.index-items-at-in-loop-at.is
    (omega (arith, x, y, c.if-key-before.false)) c.loop-at.invariant

pub returns : goal.returns
returns c = λ _. rises_all c.args.items.now c.loop-at.at c.loop-at-test.false c.loop-at.invariant
