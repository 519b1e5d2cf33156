use Rattle.std.proofs.Common.{◌<◌, ◌≤◌, ◌+◌, ℕ, true, false, sym, ap, subst, ◌∙◌, arith}
use Rattle.jc_facts.specs.Exactly.{HasExactly}
use Rattle.jc_facts.specs.Orders.{finding_order}
use Rattle.jc_facts.specs.world.World.{size}
use Rattle.jc_sides.specs.Limit.{HasMore}
use Rattle.jc_sides.specs.Rules.{IsFinding}
use Rattle.jc_sides.specs.SidesOf.{SidesOf, AreSides}
use Rattle.jc_sides.proofs.ByClass.{one_more, all_classes, past}
use Rattle.jc_sides.proofs.Limits.{told}
use Rattle.jc_sides.proofs.class_rule.by_class.Goals as goal

pub loop-n-preserved : goal.loop-n-preserved
loop-n-preserved g c =
    let l : c.loop-n.n < size c.sides.inside.old.now = omega (arith, c.count-n-end.ensures.count) in (
      one_more g.R.ClassRule.rule g.met.R.ClassRule.alone c.args.sides.now c.sides.inside.old.now (ap (λ (s : SidesOf). s.old) c.sides.view_is) c.loop-n.n c.unwrap-id.result c.loop-n.findings.items c.push_some.new.items.items c.in_ok-of_class.field-0 l
          (sym c.id.ensures.value ∙ c.unwrap-id.ensures) c.loop-n.invariant.0 c.in_ok-of_class.ensures c.in_ok-push_some.ensures,
      told c.args.most c.push_some.new.items.items c.len.result c.is_over.result false (omega (arith, c.len.ensures, c.push_some.new.items.ok.0)) c.is_over.ensures c.if-is_over.false,
    )

pub returns-then-is_over : goal.returns-then-is_over
returns-then-is_over g c =
    let l : c.loop-n.n < size c.sides.inside.old.now = omega (arith, c.count-n-end.ensures.count) in
    subst (λ (r : ℕ). HasMore finding_order (IsFinding r c.args.sides.now) c.args.most) (sym c.requires.number)
    (past g.R.ClassRule.rule g.met.R.ClassRule.alone c.args.sides.now (subst AreSides c.sides.view_is c.sides.invariant.sides) c.args.most (c.loop-n.n + 1) c.push_some.new.items.items
    (one_more g.R.ClassRule.rule g.met.R.ClassRule.alone c.args.sides.now c.sides.inside.old.now (ap (λ (s : SidesOf). s.old) c.sides.view_is) c.loop-n.n c.unwrap-id.result c.loop-n.findings.items c.push_some.new.items.items c.in_ok-of_class.field-0 l
    (sym c.id.ensures.value ∙ c.unwrap-id.ensures) c.loop-n.invariant.0 c.in_ok-of_class.ensures c.in_ok-push_some.ensures)
    (told c.args.most c.push_some.new.items.items c.len.result c.is_over.result true (omega (arith, c.len.ensures, c.push_some.new.items.ok.0)) c.is_over.ensures c.if-is_over.true))

pub returns : goal.returns
returns g c =
    let l : size c.sides.inside.old.now ≤ c.loop-n.n = omega (arith, c.count-n-end.ensures.count) in (
      subst (λ (r : ℕ). HasExactly finding_order (IsFinding r c.args.sides.now) c.loop-n.findings.items) (sym c.requires.number)
          (all_classes g.R.ClassRule.rule g.met.R.ClassRule.alone c.args.sides.now (subst AreSides c.sides.view_is c.sides.invariant.sides) c.sides.inside.old.now (ap (λ (s : SidesOf). s.old) c.sides.view_is) c.loop-n.n c.loop-n.findings.items l c.loop-n.invariant.0),
      c.loop-n.invariant.1,
    )
