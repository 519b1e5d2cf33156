use Rattle.std.proofs.Common.{◌≡◌, ◌-◌, ◌<◌, ℕ, List, [], length, take, refl, sym, ◌∙◌, ap, subst, Option, IfSome, arith}
use Rattle.std.proofs.lemmas.List.{take_all}
use Rattle.jc_facts.specs.world.World.{World}
use Rattle.jc_rows.specs.steps.Marking.{with_mark, IsMarking}
use Rattle.jc_rows.proofs.Marking.{object-below, marking-starts, marking-on, marking-ends}
use Rattle.jc_rows.proofs.with_rows.mark_upward.Goals as goal

pub mark-requires : goal.mark-requires
mark-requires c =
    subst (λ (o : Option ℕ). IfSome o (λ id. id < length c.args.made.now)) (sym c.get.ensures.value)
    (object-below c.args.index.now c.count-classes.ensures.side c.args.order.now c.requires.order c.args.made.now c.requires.made)

pub loop-i-init : goal.loop-i-init
loop-i-init c =
    let W : World = c.args.index.now in
    let all : take (length c.args.order.now - 0) c.args.order.now ≡ c.args.order.now = take_all (length c.args.order.now - 0) c.args.order.now (omega arith) in
    subst (λ (left : List ℕ). IsMarking W left c.mark.new.made) (sym all)
    (subst (IsMarking W c.args.order.now) (sym (c.mark.ensures ∙ ap (with_mark c.args.made.now) c.get.ensures.value)) (marking-starts W c.count-classes.ensures.side c.args.order.now c.requires.order c.args.made.now c.requires.made))

pub loop-i-preserved : goal.loop-i-preserved
loop-i-preserved c =
    marking-on c.args.index.now c.count-classes.ensures.side c.args.order.now c.requires.order c.loop-i.i (length c.args.order.now - 1 - c.loop-i.i) c.index-order-order.result c.loop-i-test.true refl c.index-order-order.is
    c.loop-i.made c.mark_from.new.made c.mark_from.ensures c.loop-i.invariant

pub returns : goal.returns
returns c =
    let W : World = c.args.index.now in
    let none : take (length c.args.order.now - c.loop-i.i) c.args.order.now ≡ [] = ap (λ (j : ℕ). take j c.args.order.now) (let e : length c.args.order.now - c.loop-i.i ≡ 0 = omega (arith, c.loop-i-test.false) in e) in
    marking-ends W c.count-classes.ensures.side c.loop-i.made (subst (λ (left : List ℕ). IsMarking W left c.loop-i.made) none c.loop-i.invariant)
