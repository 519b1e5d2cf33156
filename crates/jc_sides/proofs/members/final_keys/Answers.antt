use Rattle.std.proofs.Common.{◌≡◌, ◌-◌, ◌+◌, suc, None, arith}
use Rattle.jc_facts.specs.world.World.{size}
use Rattle.jc_index.specs.Ids.{name_at}
use Rattle.jc_sides.proofs.FinalKeys.{passed_start, passed_more, passed_out, passed_end}
use Rattle.jc_sides.proofs.members.final_keys.Goals as goal

pub loop-done-init : goal.loop-done-init
loop-done-init c = passed_start c.args.table.now c.args.class (size c.args.table.now - 0) c.new-keys.result.items c.requires (omega arith)

pub returns-in_default : goal.returns-in_default
returns-in_default c =
    let e : c.loop-done.next ≡ None = cc in
    passed_out c.args.table.now (name_at c.args.table.now c.args.class) (size c.args.table.now - c.loop-done.done) c.loop-done.next c.loop-done.keys.items e c.loop-done.invariant

pub loop-done-preserved : goal.loop-done-preserved
loop-done-preserved c =
    let m = size c.args.table.now - c.loop-done.done in
    let q : m ≡ suc (size c.args.table.now - (c.loop-done.done + 1)) = omega (arith, c.count-done-end.ensures.count) in
    passed_more c.args.table.now (name_at c.args.table.now c.args.class) m (size c.args.table.now - (c.loop-done.done + 1)) c.in-Some.class c.loop-done.next c.superclass-next.result c.facts.result.now c.loop-done.keys.items c.add_finals.new.keys.items
    q c.in-Some.is c.facts.ensures c.superclass-next.ensures.value c.superclass-next.ensures.of_table c.loop-done.invariant c.in_ok-add_finals.ensures

pub returns : goal.returns
returns c =
    let z : size c.args.table.now - c.loop-done.done ≡ 0 = omega (arith, c.count-done-end.ensures.count) in
    passed_end c.args.table.now (name_at c.args.table.now c.args.class) (size c.args.table.now - c.loop-done.done) c.loop-done.next c.loop-done.keys.items z c.loop-done.invariant
