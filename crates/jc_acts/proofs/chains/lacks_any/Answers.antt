use Rattle.std.proofs.Common.{◌≡◌, ◌-◌, ◌+◌, ℕ, suc, Bool, not, None, refl, sym, ap, ◌∙◌, arith}
use Rattle.jc_facts.specs.declared.class_facts.ClassFacts.{ClassFacts}
use Rattle.jc_facts.specs.world.World.{size}
use Rattle.jc_index.specs.Ids.{name_at}
use Rattle.jc_facts.specs.world.Hierarchy.{in_chain}
use Rattle.jc_acts.proofs.Beside.{beside_starts, met_there, met_goes}
use Rattle.jc_acts.proofs.Upwards.{any-from, any-here, any-above, any-out, any-end}
use Rattle.jc_acts.proofs.chains.lacks_any.Goals as goal

pub loop-init : goal.loop-init
loop-init c =
    let p : ClassFacts → Bool = λ d. not (in_chain c.args.new.now (name_at c.args.new.now c.args.other) d.name) in
    (c.requires.class, c.requires.other, any-from c.args.old.now p c.args.class (size c.args.old.now - 0) (omega arith), beside_starts c.args.new.now (name_at c.args.new.now c.args.other) c.args.other refl)

pub returns-in_default : goal.returns-in_default
returns-in_default c =
    let p : ClassFacts → Bool = λ d. not (in_chain c.args.new.now (name_at c.args.new.now c.args.other) d.name) in
    let e : c.loop.next ≡ None = cc in
    sym (c.loop.invariant.2 ∙ any-out c.args.old.now p (size c.args.old.now - c.loop.counter) c.loop.next e)

pub is_met_or_above-requires-clause-met : goal.is_met_or_above-requires-clause-met
is_met_or_above-requires-clause-met c = met_there c.args.new.now (name_at c.args.new.now c.args.other) c.loop.beside c.facts.result.now.name c.look_beside-met.result.0 c.look_beside-met.ensures.met c.loop.invariant.3

pub returns-then-not-is_met_or_above : goal.returns-then-not-is_met_or_above
returns-then-not-is_met_or_above c =
    let p : ClassFacts → Bool = λ d. not (in_chain c.args.new.now (name_at c.args.new.now c.args.other) d.name) in
    let m : ℕ = size c.args.old.now - c.loop.counter in
    let q : m ≡ suc (size c.args.old.now - (c.loop.counter + 1)) = omega (arith, c.count-end.ensures.count) in
    sym (c.loop.invariant.2 ∙ any-here c.args.old.now p m (size c.args.old.now - (c.loop.counter + 1)) c.in-Some.above c.loop.next c.facts.result.now q c.in-Some.is c.facts.ensures
    (ap not (sym c.is_met_or_above.ensures ∙ c.if-not-is_met_or_above.true)))

pub loop-preserved : goal.loop-preserved
loop-preserved c =
    let p : ClassFacts → Bool = λ d. not (in_chain c.args.new.now (name_at c.args.new.now c.args.other) d.name) in
    let m : ℕ = size c.args.old.now - c.loop.counter in
    let q : m ≡ suc (size c.args.old.now - (c.loop.counter + 1)) = omega (arith, c.count-end.ensures.count) in (
      c.superclass-next.ensures.of_table,
      c.look_beside-met.ensures.of_table,
      c.loop.invariant.2 ∙ any-above c.args.old.now p m (size c.args.old.now - (c.loop.counter + 1)) c.in-Some.above c.loop.next c.superclass-next.result c.facts.result.now q c.in-Some.is c.facts.ensures
          (ap not (sym c.is_met_or_above.ensures ∙ c.if-not-is_met_or_above.false)) c.superclass-next.ensures.value,
      met_goes c.args.new.now (name_at c.args.new.now c.args.other) c.loop.beside c.facts.result.now.name c.look_beside-met.result.1 c.look_beside-met.ensures.next c.loop.invariant.3,
    )

pub returns : goal.returns
returns c =
    let p : ClassFacts → Bool = λ d. not (in_chain c.args.new.now (name_at c.args.new.now c.args.other) d.name) in
    let z : size c.args.old.now - c.loop.counter ≡ 0 = omega (arith, c.count-end.ensures.count) in
    sym (c.loop.invariant.2 ∙ any-end c.args.old.now p (size c.args.old.now - c.loop.counter) c.loop.next z)
