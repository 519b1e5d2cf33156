use Rattle.std.proofs.Common.{◌<◌, ◌≤◌, ◌+◌, true, false, length, take, sym, ap, subst, ◌∙◌, arith}
use Rattle.jc_facts.proofs.Exactly.{OfNames}
use Rattle.jc_facts.specs.Orders.{finding_order}
use Rattle.jc_facts.specs.world.World.{size}
use Rattle.jc_index.specs.Ids.{names}
use Rattle.jc_sides.specs.Limit.{over}
use Rattle.jc_sides.specs.Rules.{IsFinding}
use Rattle.jc_sides.specs.SidesOf.{SidesOf, AreSides}
use Rattle.jc_sides.proofs.Limits.{over_none, past_of, told}
use Rattle.jc_rules.proofs.SuperclassLost.{start, one_more, all_classes}
use Rattle.jc_rules.proofs.superclass_lost.superclass_lost.Goals as goal

pub loop-n-init : goal.loop-n-init
loop-n-init c = (
  start c.args.sides.now (subst AreSides c.sides.view_is c.sides.invariant.sides) c.new-findings.result.items c.new-findings.ensures.items,
  ap (λ xs. over (length xs) c.args.most) c.new-findings.ensures.items ∙ over_none c.args.most,
)

pub loop-n-preserved : goal.loop-n-preserved
loop-n-preserved c =
    let l : c.loop-n.n < size c.sides.inside.old.now = omega (arith, c.count-n-end.ensures.count) in (
      one_more c.args.sides.now (subst AreSides c.sides.view_is c.sides.invariant.sides) c.sides.inside.old.now (ap (λ (s : SidesOf). s.old) c.sides.view_is) c.loop-n.n c.unwrap-id.result c.loop-n.findings.items
          c.in_ok-on_class.field-0.items c.append.new.self.items l (sym c.id.ensures.value ∙ c.unwrap-id.ensures) c.loop-n.invariant.0 c.in_ok-on_class.ensures c.in_ok-append.ensures.items,
      told c.args.most c.append.new.self.items c.len.result c.is_over.result false (omega (arith, c.len.ensures, c.append.new.self.ok.0)) c.is_over.ensures c.if-is_over.false,
    )

pub returns-then-is_over : goal.returns-then-is_over
returns-then-is_over c =
    let l : c.loop-n.n < size c.sides.inside.old.now = omega (arith, c.count-n-end.ensures.count) in
    past_of finding_order (OfNames (λ f. f.«class») (IsFinding 4 c.args.sides.now) (take (c.loop-n.n + 1) (names c.args.sides.now.old))) (IsFinding 4 c.args.sides.now) c.args.most c.append.new.self.items (λ f p. p.1)
    (one_more c.args.sides.now (subst AreSides c.sides.view_is c.sides.invariant.sides) c.sides.inside.old.now (ap (λ (s : SidesOf). s.old) c.sides.view_is) c.loop-n.n c.unwrap-id.result c.loop-n.findings.items
    c.in_ok-on_class.field-0.items c.append.new.self.items l (sym c.id.ensures.value ∙ c.unwrap-id.ensures) c.loop-n.invariant.0 c.in_ok-on_class.ensures c.in_ok-append.ensures.items)
    (told c.args.most c.append.new.self.items c.len.result c.is_over.result true (omega (arith, c.len.ensures, c.append.new.self.ok.0)) c.is_over.ensures c.if-is_over.true)

pub returns : goal.returns
returns c =
    let l : size c.sides.inside.old.now ≤ c.loop-n.n = omega (arith, c.count-n-end.ensures.count) in
    (all_classes c.args.sides.now (subst AreSides c.sides.view_is c.sides.invariant.sides) c.sides.inside.old.now (ap (λ (s : SidesOf). s.old) c.sides.view_is) c.loop-n.n c.loop-n.findings.items l c.loop-n.invariant.0, c.loop-n.invariant.1)
