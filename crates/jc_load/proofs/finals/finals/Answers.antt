use Rattle.std.proofs.Common.{◌≡◌, ◌-◌, ◌+◌, suc, None, sym, ◌∙◌, arith}
use Rattle.jc_facts.specs.world.World.{size}
use Rattle.jc_load.proofs.Upwards.{declared-here, declared-above, declared-out, declared-end}
use Rattle.jc_index.proofs.Walking.{finals-from}
use Rattle.jc_load.proofs.finals.finals.Goals as goal

pub loop-done-init : goal.loop-done-init
loop-done-init c = (c.requires, finals-from c.args.table.now c.args.class (size c.args.table.now - 0) c.args.key.now (omega arith))

pub returns-in_default : goal.returns-in_default
returns-in_default c =
    let e : c.loop-done.next ≡ None = cc in
    sym (c.loop-done.invariant.1 ∙ declared-out c.args.table.now c.args.key.now (size c.args.table.now - c.loop-done.done) c.loop-done.next e)

pub returns-then-declares_final : goal.returns-then-declares_final
returns-then-declares_final c =
    let m = size c.args.table.now - c.loop-done.done in
    let q : m ≡ suc (size c.args.table.now - (c.loop-done.done + 1)) = omega (arith, c.count-done-end.ensures.count) in
    sym (c.loop-done.invariant.1 ∙ declared-here c.args.table.now c.args.key.now m (size c.args.table.now - (c.loop-done.done + 1)) c.in-Some.class c.loop-done.next c.facts.result.now c.declares_final.result q c.in-Some.is c.facts.ensures c.declares_final.ensures c.if-declares_final.true)

pub loop-done-preserved : goal.loop-done-preserved
loop-done-preserved c =
    let m = size c.args.table.now - c.loop-done.done in
    let q : m ≡ suc (size c.args.table.now - (c.loop-done.done + 1)) = omega (arith, c.count-done-end.ensures.count) in (
      c.superclass-next.ensures.of_table,
      c.loop-done.invariant.1 ∙ declared-above c.args.table.now c.args.key.now m (size c.args.table.now - (c.loop-done.done + 1)) c.in-Some.class c.loop-done.next c.superclass-next.result c.facts.result.now c.declares_final.result q c.in-Some.is c.facts.ensures c.declares_final.ensures c.if-declares_final.false c.superclass-next.ensures.value,
    )

pub returns : goal.returns
returns c =
    let z : size c.args.table.now - c.loop-done.done ≡ 0 = omega (arith, c.count-done-end.ensures.count) in
    sym (c.loop-done.invariant.1 ∙ declared-end c.args.table.now c.args.key.now (size c.args.table.now - c.loop-done.done) c.loop-done.next z)
