use Rattle.std.proofs.Common.{◌≡◌, false, Some, None, refl, sym, ap, ◌∙◌}
use Rattle.jc_facts.specs.Names.{Bytes, same}
use Rattle.jc_facts.proofs.World.{found_name}
use Rattle.jc_index.proofs.Aboves.{same_number}
use Rattle.jc_index.specs.Ids.{name_at}
use Rattle.jc_sides.specs.BrokenOf.{found}
use Rattle.jc_sides.specs.SidesOf.{SidesOf}
use Rattle.jc_rules.specs.steps.Chains.{on_target}
use Rattle.jc_rules.proofs.ChainLost.{of_same, of_stay, of_left}
use Rattle.jc_rules.proofs.LostFlags.{of_loser, of_lost}
use Rattle.jc_rules.proofs.superclass_lost.on_target.Goals as goal

pub returns-then-eq : goal.returns-then-eq
returns-then-eq c =
    let s : SidesOf = c.args.sides.now in
    of_same s (name_at s.old c.args.class) (name_at s.old c.args.target)
    (same_number s.old c.requires.seats.sides.old_side.differ c.args.class c.args.target c.requires.class c.requires.target ∙ sym c.if-eq.ensures)

pub returns-then-not-has_left : goal.returns-then-not-has_left
returns-then-not-has_left c =
    let s : SidesOf = c.args.sides.now in
    of_stay s (name_at s.old c.args.class) (name_at s.old c.args.target) c.has_left.result c.if-not-has_left.true (c.has_left.ensures (name_at s.old c.args.class) c.requires.chain)

pub broken_assignment-broken-requires-clause-from_covered : goal.broken_assignment-broken-requires-clause-from_covered
broken_assignment-broken-requires-clause-from_covered c = of_loser c.args.sides.now c.args.losses.now.exposed c.requires.losses.wanted c.args.class c.requires.class c.requires.loses

pub broken_assignment-broken-requires-clause-to_covered : goal.broken_assignment-broken-requires-clause-to_covered
broken_assignment-broken-requires-clause-to_covered c =
    let s : SidesOf = c.args.sides.now in
    of_lost s c.args.losses.now.exposed c.requires.losses.wanted c.args.class c.args.target c.requires.class c.requires.target c.requires.loses c.requires.was
    (sym (c.has_left.ensures (name_at s.old c.args.class) c.requires.chain) ∙ c.if-not-has_left.false)

pub returns : goal.returns
returns c =
    let s : SidesOf = c.args.sides.now in
    let x : Bytes = name_at s.old c.args.class in
    let t : Bytes = name_at s.old c.args.target in
    let apart : same x t ≡ false = same_number s.old c.requires.seats.sides.old_side.differ c.args.class c.args.target c.requires.class c.requires.target ∙ sym c.if-eq.ensures in
    let nx : c.facts.result.now.name ≡ x = found_name c.sides.inside.old.now (name_at c.sides.inside.old.now c.args.class) c.facts.result.now c.facts.ensures ∙ ap (λ (u : SidesOf). name_at u.old c.args.class) c.sides.view_is in
    let nt : c.facts-2.result.now.name ≡ t = found_name c.sides.inside.old.now (name_at c.sides.inside.old.now c.args.target) c.facts-2.result.now c.facts-2.ensures ∙ ap (λ (u : SidesOf). name_at u.old c.args.target) c.sides.view_is in
    of_left s x t c.has_left.result c.if-not-has_left.false (c.has_left.ensures x c.requires.chain) apart c.requires.was c.in_ok-found.found c.broken_assignment-broken.result
    (c.in_ok-found.ensures
    ∙ ap (λ (y : Bytes). found (record { rule = 4; «class» = y; key = None; target = Some c.facts-2.result.now.name }) c.broken_assignment-broken.result) nx
    ∙ ap (λ (z : Bytes). found (record { rule = 4; «class» = x; key = None; target = Some z }) c.broken_assignment-broken.result) nt)
    (c.broken_assignment-broken.ensures (on_target x t) refl)
