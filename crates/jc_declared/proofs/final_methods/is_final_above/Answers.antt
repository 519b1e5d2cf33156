use Rattle.std.proofs.Common.{◌≡◌, ◌<◌, ◌-◌, ◌+◌, suc, None, sym, subst, ◌∙◌, arith}
use Rattle.std.specs.Prelude.{IfSome}
use Rattle.jc_facts.specs.world.Loading.{load_fault}
use Rattle.jc_facts.specs.world.World.{size}
use Rattle.jc_index.specs.Ids.{name_at}
use Rattle.jc_load.proofs.Upwards.{declared-out, declared-end}
use Rattle.jc_index.proofs.Walking.{finals-from}
use Rattle.jc_declared.proofs.FinalMethods.{Loads, final_here, final_above, up_loads}
use Rattle.jc_declared.proofs.final_methods.is_final_above.Goals as goal

pub loop-done-init : goal.loop-done-init
loop-done-init c = (c.requires.class, c.requires.loads, finals-from c.args.table.now c.args.class (size c.args.table.now - 0) c.args.key.now (omega arith))

pub returns-in_default : goal.returns-in_default
returns-in_default c =
    let e : c.loop-done.next ≡ None = cc in
    sym (c.loop-done.invariant.2 ∙ declared-out c.args.table.now c.args.key.now (size c.args.table.now - c.loop-done.done) c.loop-done.next e)

pub declares_final-requires-clause-loads : goal.declares_final-requires-clause-loads
declares_final-requires-clause-loads c = subst (λ next. Loads c.args.table.now next) c.in-Some.is c.loop-done.invariant.1

pub returns-then-declares_final : goal.returns-then-declares_final
returns-then-declares_final c =
    let W = c.args.table.now in
    let m = size c.args.table.now - c.loop-done.done in
    let q : m ≡ suc (size c.args.table.now - (c.loop-done.done + 1)) = omega (arith, c.count-done-end.ensures.count) in
    let below : c.in-Some.class < size W = subst (λ next. IfSome next (λ id. id < size W)) c.in-Some.is c.loop-done.invariant.0 in
    let loads : load_fault W (name_at W c.in-Some.class) ≡ None = subst (λ next. Loads W next) c.in-Some.is c.loop-done.invariant.1 in
    sym (c.loop-done.invariant.2 ∙ final_here W c.count-done-end.ensures.side c.args.key.now c.in-Some.class below loads m (size W - (c.loop-done.done + 1)) c.loop-done.next c.declares_final.result q c.in-Some.is c.declares_final.ensures c.if-declares_final.true)

pub loop-done-preserved : goal.loop-done-preserved
loop-done-preserved c =
    let W = c.args.table.now in
    let m = size c.args.table.now - c.loop-done.done in
    let q : m ≡ suc (size c.args.table.now - (c.loop-done.done + 1)) = omega (arith, c.count-done-end.ensures.count) in
    let below : c.in-Some.class < size W = subst (λ next. IfSome next (λ id. id < size W)) c.in-Some.is c.loop-done.invariant.0 in
    let loads : load_fault W (name_at W c.in-Some.class) ≡ None = subst (λ next. Loads W next) c.in-Some.is c.loop-done.invariant.1 in (
      c.superclass-next.ensures.of_table,
      up_loads W c.count-done-end.ensures.side c.args.key.now c.in-Some.class below loads c.superclass-next.result c.superclass-next.ensures.value,
      c.loop-done.invariant.2
          ∙ final_above W c.count-done-end.ensures.side c.args.key.now c.in-Some.class below loads m (size W - (c.loop-done.done + 1)) c.loop-done.next c.superclass-next.result c.declares_final.result q c.in-Some.is c.declares_final.ensures c.if-declares_final.false c.superclass-next.ensures.value,
    )

pub returns : goal.returns
returns c =
    let z : size c.args.table.now - c.loop-done.done ≡ 0 = omega (arith, c.count-done-end.ensures.count) in
    sym (c.loop-done.invariant.2 ∙ declared-end c.args.table.now c.args.key.now (size c.args.table.now - c.loop-done.done) c.loop-done.next z)
