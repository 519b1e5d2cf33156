use Rattle.std.proofs.Common.{◌≡◌, ◌<◌, ◌-◌, ◌+◌, ℕ, suc, arith, sym, ◌∙◌, ap}
use Rattle.jc_facts.specs.world.World.{size}
use Rattle.jc_index.specs.Ids.{name_at}
use Rattle.jc_index.proofs.Aboves.{any_up, superinterface-is, any-none_left, any-here, any-top, any-above}
use Rattle.jc_index.proofs.hierarchy.Hierarchy.has_superinterface.Goals as goal

pub loop-init : goal.loop-init
loop-init c = record {
  within = c.requires.class;
  same =
      let all : size c.args.self.now ≡ size c.args.self.now - 0 = omega arith in
      superinterface-is c.args.self.now (name_at c.args.self.now c.args.id) (name_at c.args.self.now c.args.of)
      ∙ ap (λ (n : ℕ). any_up c.args.self.now n (name_at c.args.self.now c.args.id) (name_at c.args.self.now c.args.of)) all;
}

pub leads_to-requires-clause-class : goal.leads_to-requires-clause-class
leads_to-requires-clause-class c = c.loop.invariant.within

pub returns-then-leads_to-clause-value : goal.returns-then-leads_to-clause-value
returns-then-leads_to-clause-value c =
    let left : 0 < size c.args.self.now - c.loop.counter = omega (arith, c.count-end.ensures.count) in
    sym (c.loop.invariant.same
    ∙ any-here c.args.self.now c.count-end.ensures.side.differ c.loop.class c.loop.invariant.within (name_at c.args.self.now c.args.of) (size c.args.self.now - c.loop.counter) left
    (sym c.leads_to.ensures ∙ c.if-leads_to.true))

pub superclass-requires : goal.superclass-requires
superclass-requires c = c.loop.invariant.within

pub returns-in-None-clause-value : goal.returns-in-None-clause-value
returns-in-None-clause-value c =
    let left : 0 < size c.args.self.now - c.loop.counter = omega (arith, c.count-end.ensures.count) in
    sym (c.loop.invariant.same
    ∙ any-top c.args.self.now c.count-end.ensures.side.differ c.loop.class c.loop.invariant.within (name_at c.args.self.now c.args.of) (size c.args.self.now - c.loop.counter) left
    (sym c.leads_to.ensures ∙ c.if-leads_to.false) c.in-None.ensures.value)

pub loop-preserved : goal.loop-preserved
loop-preserved c = record {
  within = c.in-Some.ensures.of_table;
  same =
      let one : suc (size c.args.self.now - (c.loop.counter + 1)) ≡ size c.args.self.now - c.loop.counter = omega (arith, c.count-end.ensures.count) in
      c.loop.invariant.same
      ∙ any-above c.args.self.now c.count-end.ensures.side.differ c.loop.class c.loop.invariant.within (name_at c.args.self.now c.args.of) (size c.args.self.now - c.loop.counter)
      (size c.args.self.now - (c.loop.counter + 1)) c.in-Some.above one (sym c.leads_to.ensures ∙ c.if-leads_to.false) c.in-Some.ensures.value;
}

pub returns-clause-value : goal.returns-clause-value
returns-clause-value c =
    let none : size c.args.self.now - c.loop.counter ≡ 0 = omega (arith, c.count-end.ensures.count) in
    sym (c.loop.invariant.same
    ∙ ap (λ (n : ℕ). any_up c.args.self.now n (name_at c.args.self.now c.loop.class) (name_at c.args.self.now c.args.of)) none
    ∙ any-none_left c.args.self.now c.count-end.ensures.side.differ c.loop.class c.loop.invariant.within (name_at c.args.self.now c.args.of))
