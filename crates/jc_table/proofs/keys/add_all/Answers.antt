use Rattle.jc_index.specs.Kinds.{own_of}
use Rattle.jc_table.proofs.MemberKeys.{follows_more, follows_all}
use Rattle.jc_table.proofs.keys.add_all.Goals as goal

pub loop-id-preserved : goal.loop-id-preserved
loop-id-preserved c =
    follows_more (own_of c.args.kind) c.args.table.now c.args.keys.now c.loop-id.keys c.add_class.new.keys c.args.ids.now c.loop-id.id-index c.id-item.result c.facts.result.now c.loop-id-test.true c.id-item.is c.facts.ensures c.in_ok-add_class.ensures c.loop-id.invariant

pub returns : goal.returns
returns c = follows_all (own_of c.args.kind) c.args.table.now c.args.keys.now c.loop-id.keys c.args.ids.now c.loop-id.id-index c.loop-id-test.false c.loop-id.invariant
