use Rattle.std.proofs.Common.{◌<◌, ◌≤◌, ◌+◌, true, false, length, take, sym, ap, ◌∙◌, arith}
use Rattle.jc_calls.specs.Lines.{line_order}
use Rattle.jc_call_kinds.specs.declared.call_line.CallLine.{CallLine}
use Rattle.jc_facts.proofs.Exactly.{OfNames}
use Rattle.jc_facts.specs.world.World.{size}
use Rattle.jc_index.specs.Ids.{name_at, names}
use Rattle.jc_sides.specs.Limit.{over}
use Rattle.jc_sides.specs.SidesOf.{SidesOf}
use Rattle.jc_sides.proofs.Limits.{over_none, past_of, told}
use Rattle.jc_call_lines.proofs.JoinLines.{OfJoin, class_exact, start, one_more, all_classes}
use Rattle.jc_call_lines.proofs.joins.on_classes.Goals as goal

pub loop-n-init : goal.loop-n-init
loop-n-init c = (
  start c.args.sides.now c.requires.seats.sides c.new-lines.result.items c.new-lines.ensures.items,
  ap (λ xs. over (length xs) c.args.most) c.new-lines.ensures.items ∙ over_none c.args.most,
)

pub on_class-requires-clause-targets : goal.on_class-requires-clause-targets
on_class-requires-clause-targets c = c.requires.targets.within

pub loop-n-preserved : goal.loop-n-preserved
loop-n-preserved c =
    let s : SidesOf = c.args.sides.now in
    let l : c.loop-n.n < size c.sides.inside.old.now = omega (arith, c.count-n-end.ensures.count) in (
      one_more s c.requires.seats.sides c.sides.inside.old.now (ap (λ (u : SidesOf). u.old) c.sides.view_is) c.loop-n.n c.unwrap-id.result c.loop-n.lines.items c.in_ok-on_class.field-0.items c.append.new.self.items l
          (sym c.id.ensures.value ∙ c.unwrap-id.ensures) c.loop-n.invariant.0
          (class_exact s c.requires.seats.sides c.args.targets.now c.requires.targets (name_at s.old c.unwrap-id.result) c.in_ok-on_class.field-0.items c.in_ok-on_class.ensures) c.in_ok-append.ensures.items,
      told c.args.most c.append.new.self.items c.len.result c.is_over.result false (omega (arith, c.len.ensures, c.append.new.self.ok.0)) c.is_over.ensures c.if-is_over.false,
    )

pub returns-then-is_over : goal.returns-then-is_over
returns-then-is_over c =
    let s : SidesOf = c.args.sides.now in
    let l : c.loop-n.n < size c.sides.inside.old.now = omega (arith, c.count-n-end.ensures.count) in
    past_of line_order (OfNames (λ (l : CallLine). l.«class») (OfJoin s) (take (c.loop-n.n + 1) (names s.old))) (OfJoin s) c.args.most c.append.new.self.items (λ f p. p.1)
    (one_more s c.requires.seats.sides c.sides.inside.old.now (ap (λ (u : SidesOf). u.old) c.sides.view_is) c.loop-n.n c.unwrap-id.result c.loop-n.lines.items c.in_ok-on_class.field-0.items c.append.new.self.items l
    (sym c.id.ensures.value ∙ c.unwrap-id.ensures) c.loop-n.invariant.0
    (class_exact s c.requires.seats.sides c.args.targets.now c.requires.targets (name_at s.old c.unwrap-id.result) c.in_ok-on_class.field-0.items c.in_ok-on_class.ensures) c.in_ok-append.ensures.items)
    (told c.args.most c.append.new.self.items c.len.result c.is_over.result true (omega (arith, c.len.ensures, c.append.new.self.ok.0)) c.is_over.ensures c.if-is_over.true)

pub returns : goal.returns
returns c =
    let l : size c.sides.inside.old.now ≤ c.loop-n.n = omega (arith, c.count-n-end.ensures.count) in
    (all_classes c.args.sides.now c.requires.seats.sides c.sides.inside.old.now (ap (λ (s : SidesOf). s.old) c.sides.view_is) c.loop-n.n c.loop-n.lines.items l c.loop-n.invariant.0, c.loop-n.invariant.1)
