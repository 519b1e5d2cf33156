use Rattle.std.proofs.Common.{◌≡◌, ◌<◌, ◌-◌, ◌+◌, suc, Bool, not, None, set, cond, true, ap, subst, refl, ◌∙◌, arith}
use Rattle.std.specs.Prelude.{IfSome}
use Rattle.jc_facts.specs.Names.{Bytes}
use Rattle.jc_facts.specs.world.Hierarchy.{in_chain}
use Rattle.jc_facts.specs.world.World.{World, size}
use Rattle.jc_index.specs.Ids.{name_at}
use Rattle.jc_acts.proofs.Beside.{beside_starts, met_there, met_goes}
use Rattle.jc_acts.proofs.SetFlags.{starts, steps, ends, ends_at_top, set_already}
use Rattle.jc_acts.proofs.touched.set_left.Goals as goal

pub loop-init : goal.loop-init
loop-init c =
    let left : Bytes → Bool = λ y. not (in_chain c.args.new.now (name_at c.args.new.now c.args.other) y) in
    (starts c.args.old.now left c.args.flags.now.items c.args.class (size c.args.old.now - 0) (omega arith) c.requires.class c.requires.flags, c.requires.other, beside_starts c.args.new.now (name_at c.args.new.now c.args.other) c.args.other refl)

pub returns-in_default : goal.returns-in_default
returns-in_default c =
    let left : Bytes → Bool = λ y. not (in_chain c.args.new.now (name_at c.args.new.now c.args.other) y) in
    let e : c.loop.next ≡ None = cc in
    ends_at_top c.args.old.now left c.args.flags.now.items (name_at c.args.old.now c.args.class) c.loop.flags.items (size c.args.old.now - c.loop.counter) c.loop.next e c.loop.invariant.0

pub facts-requires : goal.facts-requires
facts-requires c = subst (λ o. IfSome o (λ id. id < size c.args.old.now)) c.in-Some.is c.loop.invariant.0.there

pub set_where-requires : goal.set_where-requires
set_where-requires c =
    let l : c.in-Some.above < size c.args.old.now = subst (λ o. IfSome o (λ id. id < size c.args.old.now)) c.in-Some.is c.loop.invariant.0.there in
    omega (arith, c.loop.invariant.0.count, c.number-n.ensures)

pub superclass-next-requires : goal.superclass-next-requires
superclass-next-requires c = subst (λ o. IfSome o (λ id. id < size c.args.old.now)) c.in-Some.is c.loop.invariant.0.there

pub is_set_or_above-stays-requires-clause-met : goal.is_set_or_above-stays-requires-clause-met
is_set_or_above-stays-requires-clause-met c = met_there c.args.new.now (name_at c.args.new.now c.args.other) c.loop.beside c.facts.result.now.name c.look_beside-met.result.0 c.look_beside-met.ensures.met c.loop.invariant.2

pub loop-preserved : goal.loop-preserved
loop-preserved c =
    let W : World = c.args.old.now in
    let there : Bool = in_chain c.args.new.now (name_at c.args.new.now c.args.other) c.facts.result.now.name in
    let left : Bytes → Bool = λ y. not (in_chain c.args.new.now (name_at c.args.new.now c.args.other) y) in
    let q : size W - c.loop.counter ≡ suc (size W - (c.loop.counter + 1)) = omega (arith, c.count-end.ensures.count) in
    let n : c.number-n.result ≡ c.in-Some.above = c.number-n.ensures in (
      steps W left c.args.flags.now.items c.count-end.ensures.side.differ (name_at W c.args.class) c.loop.flags.items c.set_where.new.flags.items (size W - c.loop.counter) (size W - (c.loop.counter + 1)) c.in-Some.above c.loop.next c.superclass-next.result c.facts.result.now
          (not there) q c.in-Some.is c.facts.ensures refl
          (c.set_where.ensures ∙ ap (λ b. cond (not b) (set c.loop.flags.items c.number-n.result true) c.loop.flags.items) c.is_set_or_above-stays.ensures
          ∙ set_already c.loop.flags.items c.number-n.result c.index.result.now there c.index.ensures ∙ ap (λ k. cond (not there) (set c.loop.flags.items k true) c.loop.flags.items) n)
          c.superclass-next.ensures.of_table c.superclass-next.ensures.value c.loop.invariant.0,
      c.look_beside-met.ensures.of_table,
      met_goes c.args.new.now (name_at c.args.new.now c.args.other) c.loop.beside c.facts.result.now.name c.look_beside-met.result.1 c.look_beside-met.ensures.next c.loop.invariant.2,
    )

pub returns : goal.returns
returns c =
    let left : Bytes → Bool = λ y. not (in_chain c.args.new.now (name_at c.args.new.now c.args.other) y) in
    let z : size c.args.old.now - c.loop.counter ≡ 0 = omega (arith, c.count-end.ensures.count) in
    ends c.args.old.now left c.args.flags.now.items (name_at c.args.old.now c.args.class) c.loop.flags.items (size c.args.old.now - c.loop.counter) c.loop.next z c.loop.invariant.0
