use Rattle.jc_exposed.proofs.AddedRows.{none_added, put_next, put_end}
use Rattle.jc_exposed.proofs.rows.put_all.Goals as goal

pub loop-member-init : goal.loop-member-init
loop-member-init c = none_added c.args.table.now c.args.rows.now.items c.requires.rows

pub loop-member-preserved : goal.loop-member-preserved
loop-member-preserved c =
    put_next c.args.table.now c.args.members.now c.loop-member.member-index c.member-item.result c.member-item.result c.args.rows.now.items c.loop-member.rows.items c.put.new.rows.items c.loop-member-test.true c.member-item.is c.loop-member.invariant c.in_ok-put.ensures

pub returns : goal.returns
returns c = put_end c.args.table.now c.args.members.now c.loop-member.member-index c.args.rows.now.items c.loop-member.rows.items c.loop-member-test.false c.loop-member.invariant
