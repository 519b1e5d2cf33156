use Rattle.std.proofs.Common.{◌<◌, ◌≤◌, ◌+◌, true, false, sym, ap, subst, ◌∙◌, arith}
use Rattle.jc_facts.specs.world.World.{size}
use Rattle.jc_sides.specs.SidesOf.{SidesOf, AreSides}
use Rattle.jc_sides.proofs.Limits.{told}
use Rattle.jc_call_lines.proofs.ConstantLines.{one_more, all_classes, past}
use Rattle.jc_call_lines.proofs.constants.constants.Goals as goal

pub loop-n-preserved : goal.loop-n-preserved
loop-n-preserved c =
    let l : c.loop-n.n < size c.sides.inside.old.now = omega (arith, c.count-n-end.ensures.count) in (
      one_more c.args.sides.now c.sides.inside.old.now (ap (λ (s : SidesOf). s.old) c.sides.view_is) c.loop-n.n c.unwrap-id.result c.loop-n.lines.items c.push_some.new.items.items c.in_ok-line_on.field-0 l
          (sym c.id.ensures.value ∙ c.unwrap-id.ensures) c.loop-n.invariant.0 c.in_ok-line_on.ensures c.in_ok-push_some.ensures,
      told c.args.most c.push_some.new.items.items c.len.result c.is_over.result false (omega (arith, c.len.ensures, c.push_some.new.items.ok.0)) c.is_over.ensures c.if-is_over.false,
    )

pub returns-then-is_over : goal.returns-then-is_over
returns-then-is_over c =
    let l : c.loop-n.n < size c.sides.inside.old.now = omega (arith, c.count-n-end.ensures.count) in
    past c.args.sides.now (subst AreSides c.sides.view_is c.sides.invariant.sides) c.args.most (c.loop-n.n + 1) c.push_some.new.items.items
    (one_more c.args.sides.now c.sides.inside.old.now (ap (λ (s : SidesOf). s.old) c.sides.view_is) c.loop-n.n c.unwrap-id.result c.loop-n.lines.items c.push_some.new.items.items c.in_ok-line_on.field-0 l
    (sym c.id.ensures.value ∙ c.unwrap-id.ensures) c.loop-n.invariant.0 c.in_ok-line_on.ensures c.in_ok-push_some.ensures)
    (told c.args.most c.push_some.new.items.items c.len.result c.is_over.result true (omega (arith, c.len.ensures, c.push_some.new.items.ok.0)) c.is_over.ensures c.if-is_over.true)

pub returns : goal.returns
returns c =
    let l : size c.sides.inside.old.now ≤ c.loop-n.n = omega (arith, c.count-n-end.ensures.count) in (
      all_classes c.args.sides.now (subst AreSides c.sides.view_is c.sides.invariant.sides) c.sides.inside.old.now (ap (λ (s : SidesOf). s.old) c.sides.view_is) c.loop-n.n c.loop-n.lines.items l c.loop-n.invariant.0,
      c.loop-n.invariant.1,
    )
