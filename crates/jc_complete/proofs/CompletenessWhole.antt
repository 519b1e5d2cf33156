-- Completeness whole: each finding and each collision of a verdict is shown by its planned clients.
use Rattle.std.proofs.Common.{◌≡◌, ℕ, ◌<◌, ◌≤◌, true, List, [], ◌∷◌, length, refl, sym, ◌∙◌, subst, Some, None, ◌⊎◌, inl, inr, All, Contains, slice_get, get_or}
use Rattle.std.proofs.lemmas.Option.{slice_get_cases, get_or_from_slice_get}
use Rattle.std.proofs.lemmas.List.Elements.{All-weaker, All-contains, All-head}
use Rattle.jc_facts.specs.declared.verdict.Spot.{Spot}
use Rattle.jc_facts.specs.declared.verdict.Spot.TheVariants as spot
use Rattle.jc_facts.specs.declared.finding.Finding.{Finding}
use Rattle.jc_facts.specs.declared.verdict.Collision.{Collision}
use Rattle.jc_facts.specs.declared.verdict.Cause.TheVariants as cause
use Rattle.jc_facts.specs.world.World.{World, with_clients}
use Rattle.jc_facts.specs.declared.client.ClientClass.{ClientClass}
use Rattle.jc_facts.specs.declared.client.Item.{Item}
use Rattle.jc_facts.specs.declared.link_error.LinkError.{LinkError}
use Rattle.jc_facts.specs.client.Outcome.{outcome}
use Rattle.jc_facts.specs.client.Valid.{facts_of}
use Rattle.jc_promises.specs.client.Reach.{is_in_reach}
use Rattle.jc_promises.specs.client.Keeps.{Keeps}
use Rattle.jc_promises.specs.client.Meets.{Meets}
use Rattle.jc_promises.specs.rule.Findings.{Stands}
use Rattle.jc_promises.specs.rule.Collisions.{CollisionStands}
use Rattle.jc_facts.specs.Verdicts.{holds_some}
use Rattle.jc_promises.specs.plan.PlannedNames.{fresh_package}
use Rattle.jc_promises.specs.plan.Planned.{Plan, plan, planned, planned_for}
use Rattle.jc_complete.specs.Completeness.{Completeness, FindingsShown, CollisionsShown, Shows, MeetsNothing, PlannedShow, PlannedMeet, LinksWhole, FailsBy, IsBroken, VerdictIsExact}
use Rattle.jc_sound.proofs.SoundnessLaws.{keeps}
use Rattle.jc_complete.proofs.PlanRules.{OfRules, of_each_rule}
use Rattle.jc_complete.proofs.PlanCollisions.{of_each_collision}
use Rattle.jc_worlds.proofs.ClientOrder.{sorted_rise}
use Rattle.jc_complete.proofs.PlanSorted.{shows_in_order, meets_nothing_in_order, meets_in_order}
use Rattle.jc_complete.proofs.CompletenessLaws.{class_gone_shown, class_closed_shown, interface_became_class_shown, superclass_lost_shown, constructor_closed_shown, method_made_final_shown, field_closed_shown, method_closed_shown, interface_method_lost_shown, constant_added_shown, capture_added_shown, final_added_shown}

-- every finding is of one of the nine rules
pub finding_shown : FindingsShown (λ f. f ≡ f)
finding_shown O N c f e s = of_each_rule G O N each f s
  where
    G : Finding → Type 0
    G f = let p = plan O N (fresh_package O N) (cause.Finding f) in Shows O N p f.error × MeetsNothing O N p.clients

    each : OfRules G O N
    each = record {
      of_1 = class_gone_shown O N c;
      of_2 = class_closed_shown O N c;
      of_3 = interface_became_class_shown O N c;
      of_4 = superclass_lost_shown O N c;
      of_5 = constructor_closed_shown O N c;
      of_6 = method_made_final_shown O N c;
      of_7 = field_closed_shown O N c;
      of_8 = method_closed_shown O N c;
      of_9 = interface_method_lost_shown O N c;
    }

-- and every collision of one of the three
pub collision_shown : CollisionsShown (λ c. c ≡ c)
collision_shown O N can c e s =
    of_each_collision G O N (constant_added_shown O N can) (capture_added_shown O N can) (final_added_shown O N can) c s
  where
    G : Collision → Type 0
    G c = let p = plan O N (fresh_package O N) (cause.Collision c) in Shows O N p c.error × Meets (with_clients O (facts_of p.clients)) p.clients c

pub completeness : Completeness
completeness O N v can is = (
  All-weaker (Stands O N) (λ f. PlannedShow O N (cause.Finding f) f.error × All (λ c. PlannedMeet O N (cause.Finding f) c → ⊥) v.collisions) of_finding v.findings is.findings.sound,
  All-weaker (CollisionStands O N) (λ c. PlannedShow O N (cause.Collision c) c.error × PlannedMeet O N (cause.Collision c) c) of_collision v.collisions is.collisions.sound,
)
  where
    of_finding : (f : Finding) → Stands O N f → PlannedShow O N (cause.Finding f) f.error × All (λ c. PlannedMeet O N (cause.Finding f) c → ⊥) v.collisions
    of_finding f s =
        let g = finding_shown O N can f refl s in
        let p = plan O N (fresh_package O N) (cause.Finding f) in (
          (sorted_rise p.clients g.0.in_scope.differ, shows_in_order O N p f.error g.0),
          All-weaker (CollisionStands O N) (λ c. PlannedMeet O N (cause.Finding f) c → ⊥) (λ c stands. meets_nothing_in_order O N p g.0.in_scope.differ g.1 c stands) v.collisions is.collisions.sound,
        )

    of_collision : (c : Collision) → CollisionStands O N c → PlannedShow O N (cause.Collision c) c.error × PlannedMeet O N (cause.Collision c) c
    of_collision c s =
        let g = collision_shown O N can c refl s in
        let p = plan O N (fresh_package O N) (cause.Collision c) in
        ((sorted_rise p.clients g.0.in_scope.differ, shows_in_order O N p c.error g.0), meets_in_order O N p c g.0.in_scope.differ g.1)

-- ---- with soundness

contained : (is : List Item) (n : ℕ) (i : Item) → slice_get is n ≡ Some i → Contains is i
contained is n i h = go (slice_get_cases is n).1
  where
    go : ((j : Item) × (n < length is) × (slice_get is n ≡ Some j) × (get_or is n j ≡ j)) ⊎ ((length is ≤ n) × (slice_get is n ≡ None)) → Contains is i
    go (inl p) = (n, p.1, get_or_from_slice_get is n i i h)
    go (inr p) = absurd (let z : None ≡ Some i = sym p.1 ∙ h in cc)

-- what a plan shows isn't kept
not_kept : (O N : World) (p : Plan) (e : LinkError) → Shows O N p e → Keeps O N p.clients → ⊥
not_kept O N p e s k = go p.spot s.fails
  where
    whole : LinksWhole (with_clients O (facts_of p.clients)) p.clients s.spot
    whole = All-contains (LinksWhole (with_clients O (facts_of p.clients)) p.clients) p.clients s.spot s.links s.is_in

    go : (n : Spot) → FailsBy (with_clients N (facts_of p.clients)) s.spot n e → ⊥
    go spot.Load f = let z : None ≡ Some e = sym (k.loading s.spot s.is_in whole.0) ∙ f in cc
    go (spot.Item n) f =
        let i = contained s.spot.items n f.1.0 f.1.1 in
        let l = All-contains (λ i. (is_in_reach (with_clients O (facts_of p.clients)) s.spot.facts.name p.clients i ≡ true) × (outcome (with_clients O (facts_of p.clients)) s.spot.facts.name i ≡ None)) s.spot.items f.1.0 whole.1 i in
        let z : None ≡ Some e = sym (k.uses s.spot f.1.0 s.is_in whole.0 i l.0 l.1) ∙ f.1.2 in cc

pub verdict_is_exact : VerdictIsExact
verdict_is_exact O N v can is = (λ h. broken v.findings refl h, λ cs b. found cs b v.findings refl)
  where
    whole : All (λ f. PlannedShow O N (cause.Finding f) f.error × All (λ c. PlannedMeet O N (cause.Finding f) c → ⊥) v.collisions) v.findings
    whole = (completeness O N v can is).0

    broken : (fs : List Finding) → v.findings ≡ fs → holds_some fs ≡ true → (cs : List ClientClass) × IsBroken O N v cs
    broken [] e h = absurd (cc)
    broken (f ∷ fs) e h =
        let g = All-head (λ f. PlannedShow O N (cause.Finding f) f.error × All (λ c. PlannedMeet O N (cause.Finding f) c → ⊥) v.collisions) f fs
        (subst (All (λ f. PlannedShow O N (cause.Finding f) f.error × All (λ c. PlannedMeet O N (cause.Finding f) c → ⊥) v.collisions)) e whole) in
        (planned O N (cause.Finding f), record { in_scope = g.0.1.in_scope; meets_none = g.1; not_kept = not_kept O N (planned_for O N (cause.Finding f)) f.error g.0.1 })

    found : (cs : List ClientClass) → IsBroken O N v cs → (fs : List Finding) → v.findings ≡ fs → holds_some fs ≡ true
    found cs b (f ∷ fs) e = refl
    found cs b [] e = absurd (b.not_kept (keeps O N v cs can.pair is e b.in_scope b.meets_none))
