use Rattle.std.proofs.Common.{◌≡◌, ◌<◌, ◌-◌, ◌+◌, suc, None, set, true, ap, subst, refl, ◌∙◌, arith}
use Rattle.std.specs.Prelude.{IfSome}
use Rattle.jc_facts.specs.world.World.{World, size}
use Rattle.jc_index.specs.Ids.{name_at}
use Rattle.jc_acts.proofs.LostChains.{all_left}
use Rattle.jc_acts.proofs.SetFlags.{starts, steps, ends, ends_at_top}
use Rattle.jc_acts.proofs.lost.set_chain.Goals as goal

pub loop-init : goal.loop-init
loop-init c = starts c.args.table.now (λ y. true) c.args.flags.now.items c.args.class (size c.args.table.now - 0) (omega arith) c.requires.class c.requires.flags

pub returns-in_default : goal.returns-in_default
returns-in_default c =
    let e : c.loop.next ≡ None = cc in
    all_left c.args.table.now (name_at c.args.table.now c.args.class) c.args.flags.now.items c.loop.flags.items
    (ends_at_top c.args.table.now (λ y. true) c.args.flags.now.items (name_at c.args.table.now c.args.class) c.loop.flags.items (size c.args.table.now - c.loop.counter) c.loop.next e c.loop.invariant)

pub facts-facts-requires : goal.facts-facts-requires
facts-facts-requires c = subst (λ o. IfSome o (λ id. id < size c.args.table.now)) c.in-Some.is c.loop.invariant.there

pub set_where-requires : goal.set_where-requires
set_where-requires c =
    let l : c.in-Some.id < size c.args.table.now = subst (λ o. IfSome o (λ id. id < size c.args.table.now)) c.in-Some.is c.loop.invariant.there in
    omega (arith, c.loop.invariant.count, c.number.ensures)

pub superclass-next-requires : goal.superclass-next-requires
superclass-next-requires c = subst (λ o. IfSome o (λ id. id < size c.args.table.now)) c.in-Some.is c.loop.invariant.there

pub loop-preserved : goal.loop-preserved
loop-preserved c =
    let W : World = c.args.table.now in
    let q : size W - c.loop.counter ≡ suc (size W - (c.loop.counter + 1)) = omega (arith, c.count-end.ensures.count) in
    steps W (λ y. true) c.args.flags.now.items c.count-end.ensures.side.differ (name_at W c.args.class) c.loop.flags.items c.set_where.new.flags.items (size W - c.loop.counter) (size W - (c.loop.counter + 1)) c.in-Some.id c.loop.next c.superclass-next.result
    c.facts-facts.result.now true q c.in-Some.is c.facts-facts.ensures refl (c.set_where.ensures ∙ ap (λ k. set c.loop.flags.items k true) c.number.ensures) c.superclass-next.ensures.of_table c.superclass-next.ensures.value c.loop.invariant

pub returns : goal.returns
returns c =
    let z : size c.args.table.now - c.loop.counter ≡ 0 = omega (arith, c.count-end.ensures.count) in
    all_left c.args.table.now (name_at c.args.table.now c.args.class) c.args.flags.now.items c.loop.flags.items
    (ends c.args.table.now (λ y. true) c.args.flags.now.items (name_at c.args.table.now c.args.class) c.loop.flags.items (size c.args.table.now - c.loop.counter) c.loop.next z c.loop.invariant)
