use Rattle.std.proofs.Common.{◌≡◌, ◌<◌, ◌-◌, ◌+◌, suc, None, subst, sym, ◌∙◌, arith}
use Rattle.std.specs.Prelude.{IfSome}
use Rattle.jc_facts.specs.world.World.{World, size}
use Rattle.jc_index.specs.Ids.{name_at}
use Rattle.jc_call_lines.proofs.JoinWalk.{walk_starts, walk_here, walk_on, walk_out, walk_ends}
use Rattle.jc_call_lines.proofs.joins.meets_sooner.Goals as goal

pub loop-init : goal.loop-init
loop-init c = (c.requires.class, walk_starts c.args.table.now (name_at c.args.table.now c.args.other) (name_at c.args.table.now c.args.target) c.args.class (size c.args.table.now - 0) (omega arith))

pub returns-in_default : goal.returns-in_default
returns-in_default c =
    let W : World = c.args.table.now in
    let e : c.loop.next ≡ None = cc in
    sym (c.loop.invariant.1 ∙ walk_out W (name_at W c.args.other) (name_at W c.args.target) (size W - c.loop.counter) c.loop.next e)

pub returns-then-is_sooner : goal.returns-then-is_sooner
returns-then-is_sooner c =
    let W : World = c.args.table.now in
    let q : size W - c.loop.counter ≡ suc (size W - (c.loop.counter + 1)) = omega (arith, c.count-end.ensures.count) in
    sym (c.loop.invariant.1 ∙ walk_here W c.count-end.ensures.side (name_at W c.args.other) (name_at W c.args.target) (size W - c.loop.counter) (size W - (c.loop.counter + 1)) c.in-Some.id c.loop.next c.is_sooner.result q c.in-Some.is (subst (λ o. IfSome o (λ id. id < size W)) c.in-Some.is c.loop.invariant.0) c.is_sooner.ensures c.if-is_sooner.true)

pub loop-preserved : goal.loop-preserved
loop-preserved c =
    let W : World = c.args.table.now in
    let q : size W - c.loop.counter ≡ suc (size W - (c.loop.counter + 1)) = omega (arith, c.count-end.ensures.count) in (
      c.superclass-next.ensures.of_table,
      c.loop.invariant.1 ∙ walk_on W c.count-end.ensures.side (name_at W c.args.other) (name_at W c.args.target) (size W - c.loop.counter) (size W - (c.loop.counter + 1)) c.in-Some.id c.loop.next c.superclass-next.result c.is_sooner.result q c.in-Some.is (subst (λ o. IfSome o (λ id. id < size W)) c.in-Some.is c.loop.invariant.0) c.is_sooner.ensures c.if-is_sooner.false c.superclass-next.ensures.value,
    )

pub returns : goal.returns
returns c =
    let W : World = c.args.table.now in
    let z : size W - c.loop.counter ≡ 0 = omega (arith, c.count-end.ensures.count) in
    sym (c.loop.invariant.1 ∙ walk_ends W (name_at W c.args.other) (name_at W c.args.target) (size W - c.loop.counter) c.loop.next z)
