use Rattle.jc_index.specs.Kinds.{own_of}
use Rattle.std.proofs.Common.{◌≡◌, ◌-◌, ◌+◌, suc, None, arith}
use Rattle.jc_facts.specs.world.World.{size}
use Rattle.jc_index.specs.Ids.{name_at}
use Rattle.jc_table.proofs.MemberKeys.{ahead_starts, ahead_more, ahead_top, ahead_out}
use Rattle.jc_facts.proofs.KeySets.{empty_has}
use Rattle.jc_table.proofs.keys.keys_above.Goals as goal

pub loop-done-init : goal.loop-done-init
loop-done-init c = (c.requires, ahead_starts (own_of c.args.kind) c.args.table.now c.args.class (size c.args.table.now - 0) c.new-keys.result (omega arith) (empty_has c.new-keys.result c.new-keys.ensures.empty))

pub returns-in_default : goal.returns-in_default
returns-in_default c =
    let e : c.loop-done.next ≡ None = cc in
    ahead_top (own_of c.args.kind) c.args.table.now (name_at c.args.table.now c.args.class) (size c.args.table.now - c.loop-done.done) c.loop-done.next c.loop-done.keys e c.loop-done.invariant.1

pub loop-done-preserved : goal.loop-done-preserved
loop-done-preserved c =
    let q : size c.args.table.now - c.loop-done.done ≡ suc (size c.args.table.now - (c.loop-done.done + 1)) = omega (arith, c.count-done-end.ensures.count) in (
      c.superclass-next.ensures.of_table,
      ahead_more (own_of c.args.kind) c.args.table.now (name_at c.args.table.now c.args.class) (size c.args.table.now - c.loop-done.done) (size c.args.table.now - (c.loop-done.done + 1)) c.in-Some.class c.loop-done.next c.superclass-next.result
          c.facts.result.now c.interfaces.result.now c.loop-done.keys c.add_class.new.keys c.add_all.new.keys q c.in-Some.is c.facts.ensures c.interfaces.ensures c.in_ok-add_class.ensures c.in_ok-add_all.ensures
          c.superclass-next.ensures.value c.loop-done.invariant.1,
    )

pub returns : goal.returns
returns c =
    let z : size c.args.table.now - c.loop-done.done ≡ 0 = omega (arith, c.count-done-end.ensures.count) in
    ahead_out (own_of c.args.kind) c.args.table.now (name_at c.args.table.now c.args.class) (size c.args.table.now - c.loop-done.done) c.loop-done.next c.loop-done.keys z c.loop-done.invariant.1
