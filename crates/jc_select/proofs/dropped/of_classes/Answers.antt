use Rattle.std.proofs.Common.{◌<◌, ◌≤◌, ◌+◌, true, false, length, take, sym, ap, subst, ◌∙◌, arith}
use Rattle.jc_dropped.specs.Dropped.{IsDropped, dropped_order}
use Rattle.jc_facts.specs.declared.dropped.Dropped.{Dropped}
use Rattle.jc_facts.proofs.Exactly.{OfNames}
use Rattle.jc_facts.specs.world.World.{size}
use Rattle.jc_index.specs.Ids.{names}
use Rattle.jc_sides.specs.Limit.{over}
use Rattle.jc_sides.specs.SidesOf.{SidesOf, AreSides}
use Rattle.jc_sides.proofs.Limits.{over_none, past_of, told}
use Rattle.jc_select.proofs.DroppedRows.{start, one_more, all_classes}
use Rattle.jc_select.proofs.dropped.of_classes.Goals as goal

pub loop-n-init : goal.loop-n-init
loop-n-init c = record {
  exact = start c.args.sides.now (subst AreSides c.sides.view_is c.sides.invariant.sides) c.new-dropped.result.items c.new-dropped.ensures.items;
  within = ap (λ xs. over (length xs) c.args.most) c.new-dropped.ensures.items ∙ over_none c.args.most;
}

pub loop-n-preserved : goal.loop-n-preserved
loop-n-preserved c =
    let l : c.loop-n.n < size c.sides.inside.old.now = omega (arith, c.count-n-end.ensures.count) in
    record {
      exact = one_more c.args.sides.now (subst AreSides c.sides.view_is c.sides.invariant.sides) c.sides.inside.old.now (ap (λ (s : SidesOf). s.old) c.sides.view_is) c.loop-n.n c.unwrap-id.result c.loop-n.dropped.items
          c.in_ok-of_class.field-0.items c.append.new.self.items l (sym c.id.ensures.value ∙ c.unwrap-id.ensures) c.loop-n.invariant.exact c.in_ok-of_class.ensures c.in_ok-append.ensures.items;
      within = told c.args.most c.append.new.self.items c.len.result c.is_over.result false (omega (arith, c.len.ensures, c.append.new.self.ok.0)) c.is_over.ensures c.if-is_over.false;
    }

pub returns-then-is_over : goal.returns-then-is_over
returns-then-is_over c =
    let l : c.loop-n.n < size c.sides.inside.old.now = omega (arith, c.count-n-end.ensures.count) in
    past_of dropped_order (OfNames (λ (d : Dropped). d.«class») (IsDropped c.args.sides.now.old c.args.sides.now.new) (take (c.loop-n.n + 1) (names c.args.sides.now.old))) (IsDropped c.args.sides.now.old c.args.sides.now.new) c.args.most c.append.new.self.items (λ f p. p.1)
    (one_more c.args.sides.now (subst AreSides c.sides.view_is c.sides.invariant.sides) c.sides.inside.old.now (ap (λ (s : SidesOf). s.old) c.sides.view_is) c.loop-n.n c.unwrap-id.result c.loop-n.dropped.items
    c.in_ok-of_class.field-0.items c.append.new.self.items l (sym c.id.ensures.value ∙ c.unwrap-id.ensures) c.loop-n.invariant.exact c.in_ok-of_class.ensures c.in_ok-append.ensures.items)
    (told c.args.most c.append.new.self.items c.len.result c.is_over.result true (omega (arith, c.len.ensures, c.append.new.self.ok.0)) c.is_over.ensures c.if-is_over.true)

pub returns : goal.returns
returns c =
    let l : size c.sides.inside.old.now ≤ c.loop-n.n = omega (arith, c.count-n-end.ensures.count) in
    (all_classes c.args.sides.now (subst AreSides c.sides.view_is c.sides.invariant.sides) c.sides.inside.old.now (ap (λ (s : SidesOf). s.old) c.sides.view_is) c.loop-n.n c.loop-n.dropped.items l c.loop-n.invariant.exact, c.loop-n.invariant.within)
