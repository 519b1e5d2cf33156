use Rattle.std.proofs.Common.{◌≡◌, ℕ, List, [], ◌∷◌, ◌++◌, Some, sym, ap, subst, ◌∙◌, append_assoc, map}
use Rattle.std.proofs.lemmas.List.{append-nil}
use Rattle.std.specs.List.{filter_map}
use Rattle.jc_dropped.specs.Dropped.{IsDropped, dropped_order}
use Rattle.jc_facts.specs.declared.dropped.Dropped.{Dropped}
use Rattle.jc_facts.specs.Exactly.{HasExactly}
use Rattle.jc_sides.specs.Rules.{IsOf}
use Rattle.jc_sides.specs.SidesOf.{SidesOf, AreSides}
use Rattle.jc_index.specs.Ids.{name_at}
use Rattle.jc_index.specs.Sides.{IsSide}
use Rattle.jc_select.specs.steps.Losing.{dropped_at}
use Rattle.jc_select.proofs.DroppedRows.{one_at_step, row_exact, row_more}
use Rattle.jc_select.proofs.dropped.of_set.Goals as goal

pub of_interface-requires-clause-of : goal.of_interface-requires-clause-of
of_interface-requires-clause-of c =
    let s : SidesOf = c.args.sides.now in
    let side : IsSide s.old = (subst AreSides c.sides.view_is c.sides.invariant.sides).old_side in
    let i = c.loop-of.invariant in
    (one_at_step s side c.args.class c.args.set.now c.requires.set i.0 c.next.new.self c.in-Some.of.now (i.1 ∙ ap (λ (ks : List ℕ). i.0 ++ ks) c.in-Some.ensures.steps)).below

pub of_interface-requires-clause-drops : goal.of_interface-requires-clause-drops
of_interface-requires-clause-drops c =
    let s : SidesOf = c.args.sides.now in
    let side : IsSide s.old = (subst AreSides c.sides.view_is c.sides.invariant.sides).old_side in
    let i = c.loop-of.invariant in
    (one_at_step s side c.args.class c.args.set.now c.requires.set i.0 c.next.new.self c.in-Some.of.now (i.1 ∙ ap (λ (ks : List ℕ). i.0 ++ ks) c.in-Some.ensures.steps)).dropped

pub loop-of-init : goal.loop-of-init
loop-of-init c = ([], sym c.into_iter-of-iterator.ensures.into_iter_gives.0, c.new-dropped.ensures.items)

pub loop-of-preserved : goal.loop-of-preserved
loop-of-preserved c =
    let i = c.loop-of.invariant in (
      i.0 ++ c.in-Some.of.now ∷ [],
      i.1 ∙ ap (λ (ks : List ℕ). i.0 ++ ks) c.in-Some.ensures.steps ∙ sym (append_assoc i.0 (c.in-Some.of.now ∷ []) c.next.new.self),
      row_more (dropped_at c.args.sides.now (name_at c.args.sides.now.old c.args.class)) c.args.sides.now.old i.0 c.in-Some.of.now (Some c.in_ok-one.one) c.loop-of.dropped.items c.push.new.self.items
          i.2 c.in_ok-one.ensures c.in_ok-push.ensures.items,
    )

pub returns : goal.returns
returns c =
    let s : SidesOf = c.args.sides.now in
    let side : IsSide s.old = (subst AreSides c.sides.view_is c.sides.invariant.sides).old_side in
    let i = c.loop-of.invariant in
    let e : i.0 ≡ c.args.set.now.keys = sym (i.1 ∙ ap (λ (ks : List ℕ). i.0 ++ ks) c.in-None.ensures.steps.0 ∙ append-nil i.0) in
    subst (λ (ds : List Dropped). HasExactly dropped_order (IsOf (λ (d : Dropped). d.«class») (IsDropped s.old s.new) (name_at s.old c.args.class)) ds)
    (sym (i.2 ∙ ap (λ (ks : List ℕ). filter_map (dropped_at s (name_at s.old c.args.class)) (map (name_at s.old) ks)) e))
    (row_exact s side c.args.class c.args.set.now c.requires.set)
