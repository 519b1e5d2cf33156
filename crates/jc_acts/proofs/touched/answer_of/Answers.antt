use Rattle.std.proofs.Common.{◌≡◌, ◌<◌, ◌-◌, ◌+◌, suc, None, sym, ◌∙◌, ap, subst, arith}
use Rattle.std.specs.Prelude.{IfSome}
use Rattle.jc_facts.specs.world.World.{World, size}
use Rattle.jc_index.specs.Ids.{name_at}
use Rattle.jc_acts.specs.steps.Known.{known_at, IsKnown}
use Rattle.jc_acts.proofs.SetAbove.{begins, ends, ends_at_top, goes_on}
use Rattle.jc_acts.proofs.touched.answer_of.Goals as goal

pub loop-init : goal.loop-init
loop-init c = (c.requires.class, λ p are. begins c.args.table.now p c.args.class (size c.args.table.now - 0) (omega arith))

pub returns-in_default : goal.returns-in_default
returns-in_default c = λ p are.
    let e : c.loop.next ≡ None = cc in
    ends_at_top c.args.table.now p (name_at c.args.table.now c.args.class) (size c.args.table.now - c.loop.counter) c.loop.next e (c.loop.invariant.1 p are)

pub returns : goal.returns
returns c = λ p are.
    let z : size c.args.table.now - c.loop.counter ≡ 0 = omega (arith, c.count-end.ensures.count) in
    ends c.args.table.now p (name_at c.args.table.now c.args.class) (size c.args.table.now - c.loop.counter) c.loop.next z c.loop.invariant.0 (c.loop.invariant.1 p are)

pub loop-preserved : goal.loop-preserved
loop-preserved c =
    let W : World = c.args.table.now in
    let l : c.in-Some.id < size W = subst (λ o. IfSome o (λ n. n < size W)) c.in-Some.is c.loop.invariant.0 in
    let q : size W - c.loop.counter ≡ suc (size W - (c.loop.counter + 1)) = omega (arith, c.count-end.ensures.count) in
    let unknown : known_at c.args.known.now c.in-Some.id ≡ None = ap (known_at c.args.known.now) (sym c.number.ensures) ∙ c.in-None.is in (
      c.superclass-next.ensures.of_table,
      λ p are. goes_on W p (name_at W c.args.class) (size W - c.loop.counter) (size W - (c.loop.counter + 1)) c.in-Some.id c.loop.next c.superclass-next.result q c.in-Some.is l (subst (IsKnown W p (name_at W c.in-Some.id)) unknown (are c.in-Some.id l)) c.superclass-next.ensures.value (c.loop.invariant.1 p are),
    )
