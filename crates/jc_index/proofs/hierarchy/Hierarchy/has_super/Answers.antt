use Rattle.std.proofs.Common.{◌≡◌, ◌<◌, ◌-◌, ◌+◌, ℕ, suc, arith, sym, ◌∙◌, ap}
use Rattle.std.proofs.lemmas.Bool.{eqb-true, eqb-false}
use Rattle.jc_facts.specs.world.World.{size}
use Rattle.jc_index.specs.Ids.{name_at}
use Rattle.jc_index.proofs.Upwards.{is_up, up-chain, up-none_left, up-itself, up-top, up-above}
use Rattle.jc_index.proofs.hierarchy.Hierarchy.has_super.Goals as goal

pub loop-init : goal.loop-init
loop-init c = record {
  within = c.requires.class;
  same =
      let all : size c.args.self.now ≡ size c.args.self.now - 0 = omega arith in
      up-chain c.args.self.now (name_at c.args.self.now c.args.id) (name_at c.args.self.now c.args.of)
      ∙ ap (λ (n : ℕ). is_up c.args.self.now n (name_at c.args.self.now c.args.id) (name_at c.args.self.now c.args.of)) all;
}

pub returns-then-eq : goal.returns-then-eq
returns-then-eq c =
    let left : 0 < size c.args.self.now - c.loop.counter = omega (arith, c.count-end.ensures.count) in
    sym (c.loop.invariant.same
    ∙ ap (λ (n : ℕ). is_up c.args.self.now (size c.args.self.now - c.loop.counter) (name_at c.args.self.now c.loop.class) (name_at c.args.self.now n)) (sym (eqb-true c.loop.class c.args.of (sym c.if-eq.ensures)))
    ∙ up-itself c.args.self.now c.count-end.ensures.side.differ c.loop.class c.loop.invariant.within (size c.args.self.now - c.loop.counter) left)

pub superclass-requires : goal.superclass-requires
superclass-requires c = c.loop.invariant.within

pub returns-in-None : goal.returns-in-None
returns-in-None c =
    let left : 0 < size c.args.self.now - c.loop.counter = omega (arith, c.count-end.ensures.count) in
    sym (c.loop.invariant.same
    ∙ up-top c.args.self.now c.count-end.ensures.side.differ c.loop.class c.loop.invariant.within (size c.args.self.now - c.loop.counter) c.args.of left c.requires.above
    (eqb-false c.loop.class c.args.of (sym c.if-eq.ensures)) c.in-None.ensures.value)

pub loop-preserved : goal.loop-preserved
loop-preserved c = record {
  within = c.in-Some.ensures.of_table;
  same =
      let one : suc (size c.args.self.now - (c.loop.counter + 1)) ≡ size c.args.self.now - c.loop.counter = omega (arith, c.count-end.ensures.count) in
      c.loop.invariant.same
      ∙ up-above c.args.self.now c.count-end.ensures.side.differ c.loop.class c.loop.invariant.within (size c.args.self.now - c.loop.counter) (size c.args.self.now - (c.loop.counter + 1))
      c.args.of c.in-Some.above one c.requires.above (eqb-false c.loop.class c.args.of (sym c.if-eq.ensures)) c.in-Some.ensures.value;
}

pub returns : goal.returns
returns c =
    let none : size c.args.self.now - c.loop.counter ≡ 0 = omega (arith, c.count-end.ensures.count) in
    sym (c.loop.invariant.same
    ∙ ap (λ (n : ℕ). is_up c.args.self.now n (name_at c.args.self.now c.loop.class) (name_at c.args.self.now c.args.of)) none
    ∙ up-none_left c.args.self.now c.count-end.ensures.side.differ c.loop.class c.loop.invariant.within (name_at c.args.self.now c.args.of))
