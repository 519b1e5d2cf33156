use Rattle.jc_rows.proofs.RowsAbove.{first-here, first-further}
use Rattle.jc_rows.proofs.agreeing.first_of.Goals as goal

pub returns-in-Some : goal.returns-in-Some
returns-in-Some c =
    first-here c.args.index.now c.args.rows.now c.args.number c.args.names.now c.loop-name.name-index c.name-item.result c.loop-name-test.true c.name-item.is c.in-Some.found c.in-Some.ensures c.loop-name.invariant

pub loop-name-preserved : goal.loop-name-preserved
loop-name-preserved c =
    first-further c.args.index.now c.args.rows.now c.args.number c.args.names.now c.loop-name.name-index c.name-item.result c.loop-name-test.true c.name-item.is c.in-None.ensures c.loop-name.invariant
