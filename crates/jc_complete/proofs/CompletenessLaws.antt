-- The laws of completeness, rule by rule.
use Rattle.std.proofs.Common.{◌≡◌, true, false, [], ◌∷◌, refl, subst, Option, Some, None, is_none, not, ◌&&◌, inl, inr}
use Rattle.std.proofs.lemmas.Bool.{and_parts, not-true}
use Rattle.jc_facts.specs.declared.finding.Finding.{Finding}
use Rattle.jc_facts.specs.declared.verdict.Cause.TheVariants as cause
use Rattle.jc_facts.specs.declared.link_error.LinkError.TheVariants.{VerifyError}
use Rattle.jc_facts.specs.Names.{Bytes, object_name}
use Rattle.jc_facts.specs.world.World.{World, with_clients}
use Rattle.jc_facts.specs.declared.verdict.Collision.{Collision}
use Rattle.jc_facts.specs.client.Valid.{facts_of}
use Rattle.jc_promises.specs.client.Meets.{Meets}
use Rattle.jc_facts.specs.world.Lookup.{public_method_of_object}
use Rattle.jc_facts.specs.world.Assignment.{is_interface_of}
use Rattle.jc_promises.specs.rule.Bases.{is_class_usable, is_kept, is_key_of_method, is_base_class, is_base_interface}
use Rattle.jc_facts.specs.world.Inheritance.{is_final_in_chain, inherits}
use Rattle.jc_promises.specs.rule.Findings.{takes_part, finds_overridable}
use Rattle.jc_promises.specs.plan.PlannedNames.{fresh_package}
use Rattle.jc_promises.specs.plan.Planned.{assigns_from, loses_from, plan}
use Rattle.jc_complete.specs.Completeness.{FindingsShown, CollisionsShown, Shows}
use Rattle.jc_lemmas.proofs.Options.{none_where}
use Rattle.jc_complete.proofs.PlanGround.{Ready}
use Rattle.jc_complete.proofs.PlanReady.{ready_of}
use Rattle.jc_complete.proofs.PlanRules.{TakePart, AreHanded, LostTo, not_out, ConstructorClosed, by_new, by_init, by_class_gone, by_class_closed, by_interface_became_class, by_superclass_lost, by_constructor_closed, by_method_made_final, by_field_closed, by_method_closed, by_interface_method_lost}
use Rattle.jc_complete.proofs.PlanUses.{ShowsAlone, root_usable, class_gone_is_shown, became_parts, became_assigns, interface_became_class_is_shown, IsCut, cut_parts, cut_assigns, superclass_lost_is_shown}
use Rattle.jc_complete.proofs.PlanActs.{seat_base}
use Rattle.jc_complete.proofs.PlanParts.{part_usable, part_exposed, part_of}
use Rattle.jc_complete.proofs.PlanExposed.{assigns_are_exposed}
use Rattle.jc_complete.proofs.PlanTwoSeats.{hands_on_shows}
use Rattle.jc_complete.proofs.PlanConstructorClosed.{new_is_shown}
use Rattle.jc_complete.proofs.PlanCalls.{call_is_shown}
use Rattle.jc_complete.proofs.PlanClassClosed.{class_closed_is_shown}
use Rattle.jc_complete.proofs.PlanCollisions.{by_constant, by_capture, by_final}
use Rattle.jc_complete.proofs.PlanMeets.{capture_parts, final_parts}
use Rattle.jc_complete.proofs.PlanInterfaceMethodLost.{base_interface, interface_method_lost_is_shown}
use Rattle.jc_complete.proofs.PlanCaptureAdded.{capture_shows, capture_meets}
use Rattle.jc_complete.proofs.PlanConstantAdded.{constant_parts, constant_shows, constant_meets}
use Rattle.jc_complete.proofs.PlanBase.{base_parts}
use Rattle.jc_complete.proofs.PlanMethodMadeFinal.{override_shows, override_is_shown, meets_it}
use Rattle.jc_complete.proofs.PlanSeatRules.{field_closed_is_shown, method_closed_is_shown}

-- the plan of a finding shows it
abbrev ShowsIt : World → World → Bytes → Finding → Type 0
ShowsIt O N w f = ShowsAlone O N (plan O N w (cause.Finding f)) f.error

pub class_gone_shown : FindingsShown (λ f. f.rule ≡ 1)
unfolding plan
class_gone_shown O N c f e s =
    let w = fresh_package O N in
    let g = by_class_gone O N f e s in
    let p = and_parts (is_class_usable O f.«class») (not (is_class_usable N f.«class»)) g.stands in
    subst (ShowsIt O N w) g.is (class_gone_is_shown O N w (ready_of O N c) f.«class» p.0 (not-true (is_class_usable N f.«class») p.1))

pub interface_became_class_shown : FindingsShown (λ f. f.rule ≡ 3)
unfolding plan
interface_became_class_shown O N c f e s =
    let w = fresh_package O N in
    let r = ready_of O N c in
    let g = by_interface_became_class O N f e s in
    let p = became_parts O N f.«class» g.stands in
    subst (ShowsIt O N w) g.is (go O N w r f.«class» p.0 p.1 g.seat g.parts)
  where
    go : (O N : World) (w : Bytes) (r : Ready O N w) (i : Bytes) → is_interface_of O i ≡ true → is_interface_of N i ≡ false → (a : Option Bytes) → TakePart O N (i ∷ []) a → ShowsAlone O N (assigns_from O N w object_name i a) VerifyError
    go O N w r i was now None k = interface_became_class_is_shown O N w r i was now (and_parts (is_kept O N i) true k).0
    go O N w r i was now (Some a) k =
        let c = became_assigns O N w r i was now in
        assigns_are_exposed O N w r a (seat_base O N w r a k.0) object_name i (part_usable O a object_name (root_usable O N w r O r.old)) (part_of O N r.old.valid a i (and_parts (takes_part O N a i) true k.1).0) c.0 c.1

pub superclass_lost_shown : FindingsShown (λ f. f.rule ≡ 4)
unfolding plan
superclass_lost_shown O N c f e s =
    let w = fresh_package O N in
    let r = ready_of O N c in
    let g = by_superclass_lost O N f e s in
    subst (ShowsIt O N w) g.is (go O N w r f.«class» g.target (cut_parts O N f.«class» g.target g.stands) g.seat g.parts)
  where
    -- by one seat
    by_one : (O N : World) (w : Bytes) (r : Ready O N w) (x t : Bytes) → IsCut O N x t → (a : Bytes) → TakePart O N (x ∷ t ∷ []) (Some a) → ShowsAlone O N (loses_from O N w x t (Some a)) VerifyError
    by_one O N w r x t h a k =
        let p = and_parts (takes_part O N a x) (takes_part O N a t && true) k.1 in
        let q = (and_parts (takes_part O N a t) true p.1).0 in
        let c = cut_assigns O N w r x t h in
        rw (not_out O N a t q) (assigns_are_exposed O N w r a (seat_base O N w r a k.0) x t (part_of O N r.old.valid a x p.0) (part_of O N r.old.valid a t q) c.0 c.1)

    -- by two
    by_two : (O N : World) (w : Bytes) (r : Ready O N w) (x t : Bytes) → IsCut O N x t → (a : Bytes) → AreHanded O N x t a → ShowsAlone O N (loses_from O N w x t (Some a)) VerifyError
    by_two O N w r x t h a k =
        let c = cut_assigns O N w r x t h in
        rw (k.out, k.is_other)
        (hands_on_shows O N w r a k.other (seat_base O N w r a k.first) (seat_base O N w r k.other k.second) k.apart x t (part_exposed O r.old.valid a x k.shown) (part_exposed O r.old.valid k.other t k.exposed) c.0 c.1)

    go : (O N : World) (w : Bytes) (r : Ready O N w) (x t : Bytes) → IsCut O N x t → (a : Option Bytes) → LostTo O N x t a → ShowsAlone O N (loses_from O N w x t a) VerifyError
    go O N w r x t h None k =
        let p = and_parts (is_kept O N x) (is_kept O N t && true) k in
        superclass_lost_is_shown O N w r x t h p.0 (and_parts (is_kept O N t) true p.1).0
    go O N w r x t h (Some a) (inl k) = by_one O N w r x t h a k
    go O N w r x t h (Some a) (inr k) = by_two O N w r x t h a k

pub constructor_closed_shown : FindingsShown (λ f. f.rule ≡ 5)
unfolding plan
constructor_closed_shown O N c f e s = go (by_constructor_closed O N f e s)
  where
    w : Bytes
    w = fresh_package O N

    r : Ready O N (fresh_package O N)
    r = ready_of O N c

    go : ConstructorClosed O N f → ShowsAlone O N (plan O N (fresh_package O N) (cause.Finding f)) f.error
    go (by_new k x b is) = subst (ShowsIt O N w) is (new_is_shown O N w r f.«class» k x b)
    go (by_init k x b is) = subst (ShowsIt O N w) is (call_is_shown O N w r f.«class» k x b)

pub class_closed_shown : FindingsShown (λ f. f.rule ≡ 2)
unfolding plan
class_closed_shown O N c f e s =
    let w = fresh_package O N in
    let g = by_class_closed O N f e s in
    subst (ShowsIt O N w) g.is (class_closed_is_shown O N w (ready_of O N c) f.«class» g.stands)

pub field_closed_shown : FindingsShown (λ f. f.rule ≡ 7)
unfolding plan
field_closed_shown O N c f e s =
    let w = fresh_package O N in
    let g = by_field_closed O N f e s in
    subst (ShowsIt O N w) g.acts.is (field_closed_is_shown O N w (ready_of O N c) f g)

pub method_closed_shown : FindingsShown (λ f. f.rule ≡ 8)
unfolding plan
method_closed_shown O N c f e s =
    let w = fresh_package O N in
    let g = by_method_closed O N f e s in
    subst (ShowsIt O N w) g.acts.is (method_closed_is_shown O N w (ready_of O N c) f g)

pub method_made_final_shown : FindingsShown (λ f. f.rule ≡ 6)
unfolding plan
method_made_final_shown O N c f e s =
    let w = fresh_package O N in
    let g = by_method_made_final O N f e s in
    let x = f.«class» in
    let a = and_parts (is_key_of_method g.key && is_base_class O N x && is_final_in_chain N x g.key && not (is_final_in_chain O x g.key)) (finds_overridable O x g.key) g.stands in
    let b = and_parts (is_key_of_method g.key && is_base_class O N x && is_final_in_chain N x g.key) (not (is_final_in_chain O x g.key)) a.0 in
    let d = and_parts (is_key_of_method g.key && is_base_class O N x) (is_final_in_chain N x g.key) b.0 in
    let h = and_parts (is_key_of_method g.key) (is_base_class O N x) d.0 in
    subst (ShowsIt O N w) g.is (override_is_shown O N w (ready_of O N c) x (base_parts O N x h.1) g.key h.0 d.1 (not-true (is_final_in_chain O x g.key) b.1) a.1)

pub interface_method_lost_shown : FindingsShown (λ f. f.rule ≡ 9)
unfolding plan
interface_method_lost_shown O N c f e s =
    let w = fresh_package O N in
    let g = by_interface_method_lost O N f e s in
    let x = f.«class» in
    let a = and_parts (is_key_of_method g.key && is_base_interface O N x && inherits O x g.key && not (inherits N x g.key)) (is_none (public_method_of_object O g.key)) g.stands in
    let b = and_parts (is_key_of_method g.key && is_base_interface O N x && inherits O x g.key) (not (inherits N x g.key)) a.0 in
    let d = and_parts (is_key_of_method g.key && is_base_interface O N x) (inherits O x g.key) b.0 in
    let h = and_parts (is_key_of_method g.key) (is_base_interface O N x) d.0 in
    subst (ShowsIt O N w) g.is (interface_method_lost_is_shown O N w (ready_of O N c) x (base_interface O N x h.1) g.key h.0 d.1 (not-true (inherits N x g.key) b.1) (none_where (public_method_of_object O g.key) a.1))

-- ---- collisions

-- the plan of a collision shows it and meets it
abbrev ShowsMet : World → World → Bytes → Collision → Type 0
ShowsMet O N w c = Shows O N (plan O N w (cause.Collision c)) c.error × Meets (with_clients O (facts_of (plan O N w (cause.Collision c)).clients)) (plan O N w (cause.Collision c)).clients c

pub final_added_shown : CollisionsShown (λ c. c.rule ≡ 12)
unfolding plan
final_added_shown O N can c e s =
    let w = fresh_package O N in
    let r = ready_of O N can in
    let g = by_final O N c e s in
    let p = final_parts O N c.«class» c.key g.0 in
    let b = base_parts O N c.«class» p.base in
    subst (ShowsMet O N w) g.1 (override_shows O N w r c.«class» b c.key p.key p.now p.was, inr (inr (refl, meets_it O N w r c.«class» b c.key p.key p.now p.was)))

pub constant_added_shown : CollisionsShown (λ c. c.rule ≡ 10)
unfolding plan
constant_added_shown O N can c e s =
    let w = fresh_package O N in
    let r = ready_of O N can in
    let g = by_constant O N c e s in
    let p = constant_parts O N c.«class» c.key g.0 in
    let b = base_interface O N c.«class» p.base in
    subst (ShowsMet O N w) g.1 (constant_shows O N w r c.«class» b c.key p, inl (refl, constant_meets O N w r c.«class» b c.key p))

pub capture_added_shown : CollisionsShown (λ c. c.rule ≡ 11)
unfolding plan
capture_added_shown O N can c e s =
    let w = fresh_package O N in
    let r = ready_of O N can in
    let g = by_capture O N c e s in
    let p = capture_parts O N c.«class» c.key g.0 in
    let b = base_parts O N c.«class» p.base in
    subst (ShowsMet O N w) g.1 (capture_shows O N w r c.«class» b c.key p, inr (inl (refl, capture_meets O N w r c.«class» b c.key p)))
