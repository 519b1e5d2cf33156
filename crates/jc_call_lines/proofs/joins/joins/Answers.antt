use Rattle.std.proofs.Common.{ℕ, List, subst, sym}
use Rattle.std.specs.List.{All}
use Rattle.jc_sides.specs.SidesOf.{SidesOf}
use Rattle.jc_call_lines.specs.steps.JoinLines.{AreBelow, AreMet, IsServed}
use Rattle.jc_call_lines.proofs.JoinLeft.{all_served}
use Rattle.jc_call_lines.proofs.joins.joins.Goals as goal

pub on_classes-requires-clause-served : goal.on_classes-requires-clause-served
on_classes-requires-clause-served c =
    let s : SidesOf = c.args.sides.now in
    let ts : List ℕ = c.in_ok-targets.targets.items in
    let ks : List ℕ = c.in_ok-below.below.items in
    subst (All (IsServed s c.in_ok-exposed.exposed c.as_slice-4.result.now)) (sym c.as_slice-5.ensures.value)
    (subst (λ (ks : List ℕ). All (IsServed s c.in_ok-exposed.exposed ks) ts) (sym c.as_slice-4.ensures.value)
    (all_served s c.requires.sides.old_side.differ ts ks c.in_ok-exposed.exposed
    (subst (λ (ts : List ℕ). AreBelow s.old ts ks) c.as_slice-2.ensures.value (subst (λ (u : SidesOf). AreBelow u.old c.as_slice-2.result.now ks) c.sides.view_is c.in_ok-below.ensures))
    (subst (λ (ts : List ℕ). AreMet s ts c.in_ok-exposed.exposed) c.as_slice-3.ensures.value c.in_ok-exposed.ensures)))
