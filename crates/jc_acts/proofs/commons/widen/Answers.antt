use Rattle.std.proofs.Common.{◌≡◌, ◌<◌, ◌-◌, ◌+◌, ℕ, None, Some, sym, ◌∙◌, ap, subst, refl, arith, set}
use Rattle.std.specs.Prelude.{IfSome}
use Rattle.std.proofs.lemmas.List.{get_or_read_under}
use Rattle.jc_facts.specs.Names.{Bytes}
use Rattle.jc_facts.specs.world.World.{World, size}
use Rattle.jc_index.specs.Ids.{name_at}
use Rattle.jc_acts.specs.steps.Commons.{covers, kept_of, takes_in}
use Rattle.jc_acts.proofs.Covering.{IsOnWay, starts, steps, ends, ends_at_top, ends_at_seat}
use Rattle.jc_acts.proofs.commons.widen.Goals as goal

pub loop-init : goal.loop-init
loop-init c =
    starts c.args.old.now c.args.new.now (name_at c.args.old.now c.args.before) c.requires.loads c.args.common.now.items (size c.args.old.now - 0) c.args.before c.args.now (omega arith) refl c.requires.name c.requires.before c.requires.now c.requires.common

pub returns-in_default : goal.returns-in_default
returns-in_default c =
    let e : c.loop.next ≡ None = cc in
    ends_at_top c.args.old.now c.args.new.now (name_at c.args.old.now c.args.before) c.requires.loads c.args.common.now.items c.loop.common.items (size c.args.old.now - c.loop.counter) c.loop.next c.loop.wide e c.loop.invariant

pub bounds-added-n : goal.bounds-added-n
bounds-added-n c =
    let l : c.in-Some.class < size c.args.old.now = subst (λ o. IfSome o (λ id. id < size c.args.old.now)) c.in-Some.is c.loop.invariant.there in
    omega (arith, c.requires.added.count, c.number-n.ensures)

pub is_above-requires-clause-above : goal.is_above-requires-clause-above
is_above-requires-clause-above c =
    let l : c.in-Some.class < size c.args.old.now = subst (λ o. IfSome o (λ id. id < size c.args.old.now)) c.in-Some.is c.loop.invariant.there in
    subst (λ o. IfSome o (λ id. id < size c.args.new.now)) (sym (get_or_read_under c.args.added.now c.number-n.result (size c.args.old.now) c.index-added-n.result None c.index-added-n.is (subst (λ n. n < size c.args.old.now) (sym c.number-n.ensures) l) (sym c.requires.added.count)))
    (c.requires.added.within c.number-n.result)

pub returns-then-is_above : goal.returns-then-is_above
returns-then-is_above c =
    let l : c.in-Some.class < size c.args.old.now = subst (λ o. IfSome o (λ id. id < size c.args.old.now)) c.in-Some.is c.loop.invariant.there in
    let at : c.index-added-n.result ≡ kept_of c.args.added.now c.in-Some.class =
    get_or_read_under c.args.added.now c.number-n.result (size c.args.old.now) c.index-added-n.result None c.index-added-n.is (subst (λ n. n < size c.args.old.now) (sym c.number-n.ensures) l) (sym c.requires.added.count)
    ∙ ap (kept_of c.args.added.now) c.number-n.ensures in
    ends_at_seat c.args.old.now c.args.new.now (name_at c.args.old.now c.args.before) c.requires.loads c.args.common.now.items c.args.added.now c.loop.common.items (size c.args.old.now - c.loop.counter) c.in-Some.class c.loop.wide c.index-added-n.result c.requires.added
    (subst (λ o. IsOnWay c.args.old.now c.args.new.now (name_at c.args.old.now c.args.before) c.args.common.now.items c.loop.common.items (size c.args.old.now - c.loop.counter) o c.loop.wide) c.in-Some.is c.loop.invariant)
    (sym at)
    (ap (covers c.args.new.now c.index-added-n.result) (sym c.requires.name) ∙ sym c.is_above.ensures ∙ c.if-is_above.true)

pub index-requires : goal.index-requires
index-requires c =
    let l : c.in-Some.class < size c.args.old.now = subst (λ o. IfSome o (λ id. id < size c.args.old.now)) c.in-Some.is c.loop.invariant.there in
    omega (arith, c.loop.invariant.inside.count, c.number-n.ensures)

pub widened-wide-requires-clause-common : goal.widened-wide-requires-clause-common
widened-wide-requires-clause-common c = subst (λ o. IfSome o (λ id. id < size c.args.new.now)) (sym (get_or_read_under c.loop.common.items c.number-n.result (size c.args.old.now) c.index.result.now None c.index.ensures (let l : c.in-Some.class < size c.args.old.now = subst (λ o. IfSome o (λ id. id < size c.args.old.now)) c.in-Some.is c.loop.invariant.there in subst (λ n. n < size c.args.old.now) (sym c.number-n.ensures) l) (sym c.loop.invariant.inside.count) ∙ ap (kept_of c.loop.common.items) c.number-n.ensures)) (c.loop.invariant.inside.within c.in-Some.class)

pub widened-wide-requires-clause-class : goal.widened-wide-requires-clause-class
widened-wide-requires-clause-class c = c.loop.invariant.below

pub index_mut-requires : goal.index_mut-requires
index_mut-requires c =
    let l : c.in-Some.class < size c.args.old.now = subst (λ o. IfSome o (λ id. id < size c.args.old.now)) c.in-Some.is c.loop.invariant.there in
    omega (arith, c.loop.invariant.inside.count, c.number-n.ensures)

pub superclass-next-requires : goal.superclass-next-requires
superclass-next-requires c = subst (λ o. IfSome o (λ id. id < size c.args.old.now)) c.in-Some.is c.loop.invariant.there

pub loop-preserved : goal.loop-preserved
loop-preserved c =
    let O : World = c.args.old.now in
    let N : World = c.args.new.now in
    let a : Bytes = name_at O c.args.before in
    let l : c.in-Some.class < size O = subst (λ o. IfSome o (λ id. id < size O)) c.in-Some.is c.loop.invariant.there in
    let kept : c.index.result.now ≡ kept_of c.loop.common.items c.in-Some.class =
    get_or_read_under c.loop.common.items c.number-n.result (size O) c.index.result.now None c.index.ensures (subst (λ n. n < size O) (sym c.number-n.ensures) l) (sym c.loop.invariant.inside.count)
    ∙ ap (kept_of c.loop.common.items) c.number-n.ensures in
    subst (λ (n : ℕ). IsOnWay O N a c.args.common.now.items (set c.loop.common.items n (Some c.widened-wide.result)) (size O - (c.loop.counter + 1)) c.superclass-next.result c.widened-wide.result) (sym c.number-n.ensures)
    (steps O N a c.requires.loads c.args.common.now.items c.count-end.ensures.side.differ c.loop.common.items (size O - c.loop.counter) (size O - (c.loop.counter + 1)) c.in-Some.class c.loop.wide c.widened-wide.result c.superclass-next.result
    (omega (arith, c.count-end.ensures.count))
    (subst (λ o. IsOnWay O N a c.args.common.now.items c.loop.common.items (size O - c.loop.counter) o c.loop.wide) c.in-Some.is c.loop.invariant)
    c.widened-wide.ensures.of_table (subst (λ o. takes_in N o c.widened-wide.result) kept c.widened-wide.ensures.common) c.widened-wide.ensures.class c.superclass-next.ensures.of_table c.superclass-next.ensures.value)

pub returns : goal.returns
returns c =
    let z : size c.args.old.now - c.loop.counter ≡ 0 = omega (arith, c.count-end.ensures.count) in
    ends c.args.old.now c.args.new.now (name_at c.args.old.now c.args.before) c.requires.loads c.args.common.now.items c.loop.common.items (size c.args.old.now - c.loop.counter) c.loop.next c.loop.wide z c.loop.invariant
