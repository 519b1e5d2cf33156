-- That clients keep their method references, where none is lost.
use Rattle.std.proofs.Common.{◌≡◌, ◌&&◌, ◌||◌, inr, Bool, true, false, not, List, refl, sym, ◌∙◌, ap, subst, Option, None, Some, is_none, is_some}
use Rattle.std.proofs.lemmas.Bool.{and_parts, and_from, not-false}
use Rattle.std.proofs.lemmas.List.Elements.{All-contains}
use Rattle.std.specs.List.{list_any, Contains}
use Rattle.jc_facts.specs.declared.act.Act.{Act}
use Rattle.jc_facts.specs.declared.class_facts.ClassFacts.{ClassFacts}
use Rattle.jc_facts.specs.declared.client.ClientClass.{ClientClass}
use Rattle.jc_facts.specs.declared.client.Place.TheVariants.{Other}
use Rattle.jc_facts.specs.declared.finding.Finding.{Finding}
use Rattle.jc_facts.specs.declared.key.Key.{Key}
use Rattle.jc_facts.specs.declared.link_error.LinkError.{LinkError}
use Rattle.jc_facts.specs.declared.link_error.LinkError.TheVariants.{IllegalAccessError, IncompatibleClassChangeError}
use Rattle.jc_facts.specs.declared.rule_numbers.TheConstants.{METHOD_CLOSED}
use Rattle.jc_facts.specs.declared.verdict.Collision.{Collision}
use Rattle.jc_facts.specs.Names.{Bytes, package_name}
use Rattle.jc_facts.specs.Options.{and_then}
use Rattle.jc_facts.specs.world.World.{World, find_class, class_named, with_clients, is_client}
use Rattle.jc_facts.specs.world.Access.{is_class_accessible, is_member_accessible, is_member_open}
use Rattle.jc_facts.specs.world.Loading.{load_fault, fault_where}
use Rattle.jc_facts.specs.client.Acts.{FieldForm, MethodForm, InterfaceForm, form_of, is_act_on_field}
use Rattle.jc_promises.specs.client.Names.{is_free_name, is_client_name}
use Rattle.jc_facts.specs.client.Outcome.{outcome, class_fault, use_fault}
use Rattle.jc_facts.specs.client.Valid.{facts_of}
use Rattle.jc_facts.proofs.Options.{or_else-none}
use Rattle.jc_facts.proofs.World.{find-name}
use Rattle.jc_promises.specs.client.Meets.{Meets, MeetsFinal}
use Rattle.jc_promises.specs.rule.Bases.{is_class_usable, is_key_of_method, is_steady}
use Rattle.jc_promises.specs.rule.Collisions.{made_collision, final_added}
use Rattle.jc_promises.specs.rule.OpenActs.{act_fault, first_seat, method_acts}
use Rattle.jc_facts.specs.declared.act.Act.TheVariants.{Override}
use Rattle.jc_lemmas.proofs.Bools.{contradicts}
use Rattle.jc_lemmas.proofs.Listed.{EachOf, each_in, not_any}
use Rattle.jc_lemmas.proofs.Options.{none_where}
use Rattle.jc_worlds.proofs.Above.{fault_where-none}
use Rattle.jc_worlds.proofs.Alike.{class_step-named}
use Rattle.jc_worlds.proofs.FieldActs.{member_seat}
use Rattle.jc_worlds.proofs.Packages.{package_apart}
use Rattle.jc_sound.proofs.ClientItems.{IsHeld, client, library, held}
use Rattle.jc_sound.proofs.Context.{IsAccess, access-parts}
use Rattle.jc_sound.proofs.FindingLaws.{empty_means_none}
use Rattle.jc_sound.proofs.Ground.{Ground, no_client, root_library}
use Rattle.jc_sound.proofs.Looked.{looked, look_up-takes, look_up-from, use-parts}
use Rattle.jc_sound.proofs.MethodLooked.{looked-declared, looked-side, no_put}
use Rattle.jc_sound.proofs.OpenActs.{first_seat-none}
use Rattle.jc_sound.proofs.Reach.{declared_library, seat_x}
use Rattle.jc_sound.proofs.Sound.{ground, loads_kept, named_client, valid_item}
use Rattle.jc_sound.proofs.SoundnessLaws.{final_is, keeps}
use Rattle.jc_sound.proofs.Standing.{IsUsable, all_quiet, stays_steady, stays_usable, usable_parts}
use Rattle.jc_sound.proofs.Uses.{open-from, seat_use}
use Rattle.jc_sound.proofs.ClientNames.{free_old, free_new, free_parts}
use Rattle.jc_calls.specs.CallsKept.{ReferencesStay}
use Rattle.jc_calls.specs.Handles.{handle_item, handle_ok, are_referable}
use Rattle.jc_calls.specs.References.{is_open_to_some, is_handle_lost, is_told, are_of_open, reference_lost}
use Rattle.jc_calls.proofs.Openly.{handle_is, referable_side}

-- ---- on the sides

module _ (O N : World) (c : Bytes) (k : Key) (mk : is_key_of_method k ≡ true) (steady : is_steady O N c ≡ true) (untold : is_told O N c k ≡ false) (kept : reference_lost O N c k ≡ false) where
  none_lost : list_any (is_handle_lost O N c k) method_acts ≡ false
  unfolding reference_lost
  none_lost = go (list_any (is_handle_lost O N c k) method_acts) refl
    where
      go : (b : Bool) → list_any (is_handle_lost O N c k) method_acts ≡ b → b ≡ false
      go false e = refl
      go true e = absurd (
          let all : (is_key_of_method k && is_steady O N c && list_any (is_handle_lost O N c k) method_acts && not (is_told O N c k)) ≡ true = rw (mk, steady, e, untold) refl in
          contradicts (is_key_of_method k && is_steady O N c && list_any (is_handle_lost O N c k) method_acts && not (is_told O N c k)) all kept)

  -- what a seat could do, and was public and of classes that clients can name, still is of such
  pub stays_open : (what : Act) → Contains method_acts what → is_open_to_some O N c k what ≡ true → are_referable O what c k ≡ true → are_of_open O what c k ≡ true → are_of_open N what c k ≡ true
  stays_open what i o p h = go (are_of_open N what c k) refl
    where
      go : (b : Bool) → are_of_open N what c k ≡ b → b ≡ true
      go true e = refl
      go false e = absurd (
          let all : (is_open_to_some O N c k what && are_referable O what c k && are_of_open O what c k && not (are_of_open N what c k)) ≡ true = rw (o, p, h, e) refl in
          contradicts (is_handle_lost O N c k what) all (not_any (is_handle_lost O N c k) method_acts what none_lost i))

-- ---- of a client

module _ (O N : World) (ccs : List ClientClass) (g : Ground O N (facts_of ccs)) (X : ClientClass) (kx : class_named (facts_of ccs) X.facts.name ≡ Some X.facts) (lx : load_fault (with_clients O (facts_of ccs)) X.facts.name ≡ None)
    (free : is_free_name O X.facts.name ≡ true) (what : Act) (t : Bytes) (k : Key) (is_method : form_of what ≡ FieldForm → ⊥) (kt : class_named (facts_of ccs) t ≡ None)
    (links : outcome (with_clients O (facts_of ccs)) X.facts.name (handle_item what t k) ≡ None) where
  abbrev cs : List ClassFacts
  cs = facts_of ccs

  abbrev x : Bytes
  x = X.facts.name

  abbrev VO : World
  VO = with_clients O (facts_of ccs)

  p : IsAccess VO x what t k None Other
  p = access-parts VO x what t k None Other links

  step : class_fault VO x t ≡ None
  step = sym (class_step-named VO x t p.plain) ∙ p.step

  both : (load_fault VO t ≡ None) × (and_then (λ d. fault_where (not (is_class_accessible VO x d)) IllegalAccessError) (find_class VO t) ≡ None)
  unfolding class_fault
  both = or_else-none (load_fault VO t) (and_then (λ d. fault_where (not (is_class_accessible VO x d)) IllegalAccessError) (find_class VO t)) step

  pub usable : is_class_usable O t ≡ true
  unfolding and_then
  usable = go (held O N cs g.fo g.fn g.quiet g.client_names g.clients_load x X.facts kx t both.0 access)
    where
      access : (d : ClassFacts) → find_class VO t ≡ Some d → is_class_accessible VO x d ≡ true
      access d e = let z : fault_where (not (is_class_accessible VO x d)) IllegalAccessError ≡ None = rw e at both.1 in not-false (is_class_accessible VO x d) (fault_where-none (not (is_class_accessible VO x d)) IllegalAccessError z)

      go : IsHeld O N cs g.fo g.fn g.quiet g.client_names g.clients_load t → is_class_usable O t ≡ true
      go (client d e) = absurd (let z : None ≡ Some d = sym kt ∙ e in cc)
      go (library e u) = u

  u : IsUsable O t
  u = usable_parts O t usable

  abbrev a : Bytes
  a = (seat_x O N cs g x X.facts kx lx).seat

  pub open_to_seat : act_fault O a t k what ≡ None
  unfolding act_fault
  open_to_seat =
      let st = seat_x O N cs g x X.facts kx lx in
      let f = look_up-takes VO (form_of what) t k (use_fault VO x what t None Other) p.found in
      let m = f.found in
      let eo : looked O (form_of what) t k ≡ Some m = looked-side O cs g.fo.bare g.fo.unused (form_of what) t k kt (root_library O N cs g) u.loaded ∙ f.taken in
      let d = looked-declared O (form_of what) t k m is_method u.loaded eo in
      let used = use-parts VO x what t None Other m f.fine in
      let ko : class_named cs m.owner ≡ None = declared_library O cs g.fo m.owner d.class d.is_there in
      let same_access : is_member_accessible VO x t m ≡ is_member_open O a t m =
      member_seat VO O x a t m (λ q. package_apart O x m.owner d.class (free_parts O x free).apart d.is_there (q ∙ ap package_name (sym (find-name O m.owner d.class d.is_there))))
      (st.old_chain m.owner ko) (st.old_chain t kt) (no_client O cs g.fo t x X.facts kt both.0 kx) in
      look_up-from O (form_of what) t k (seat_use O a t what) (record {
        found = m;
        taken = eo;
        fine = open-from O a t what m (record { access = sym same_access ∙ used.access; kind = used.kind; final = rw (no_put what is_method) refl });
      })

  pub open_to_some : is_open_to_some O N t k what ≡ true
  open_to_some = go (first_seat O N test) refl
    where
      test : Bytes → Bool
      test s = is_none (act_fault O s t k what)

      go : (o : Option Bytes) → first_seat O N test ≡ o → is_some o ≡ true
      go (Some s) e = refl
      go None e = absurd (contradicts (test a) (ap (λ o. is_none {T = LinkError} o) open_to_seat) (first_seat-none O N test e a (seat_x O N cs g x X.facts kx lx).is_seat))

-- ---- the law

-- none of the four is on a field
abbrev pub IsOnMethod : Act → Type 0
IsOnMethod what = (form_of what ≡ FieldForm → ⊥) × (is_act_on_field what ≡ false)

on_methods : EachOf IsOnMethod method_acts
on_methods = ((absurd_form, refl), ((absurd_form, refl), ((absurd_face, refl), ((absurd_face, refl), tt))))
  where
    absurd_form : MethodForm ≡ FieldForm → ⊥
    absurd_form e = absurd (cc)

    absurd_face : InterfaceForm ≡ FieldForm → ⊥
    absurd_face e = absurd (cc)

-- the act of the handle is Ok
handle_links : (V : World) (x : Bytes) (what : Act) (t : Bytes) (k : Key) → handle_ok V x what t k ≡ true → is_none (outcome V x (handle_item what t k)) ≡ true
unfolding handle_ok
handle_links V x what t k h = (and_parts (is_none (outcome V x (handle_item what t k))) _ h).0

no_client_named : (O : World) (cs : List ClassFacts) (t : Bytes) → is_client (with_clients O cs) t ≡ false → class_named cs t ≡ None
unfolding is_client
no_client_named O cs t h = go (class_named cs t) h
  where
    go : (o : Option ClassFacts) → is_some o ≡ false → o ≡ None
    go None e = refl
    go (Some c) e = absurd (cc)

pub references_stay : ReferencesStay
references_stay O N v pair verdict empty none cs scope met X what t k h l w one nc p ok =
    let W = with_clients O (facts_of cs) in
    let F = facts_of cs in
    let nothing = empty_means_none O N v verdict empty in
    let q = all_quiet O N nothing in
    let final : (a : Bytes) (k : Key) → final_added O N a k ≡ true → MeetsFinal W cs a k → ⊥ = λ a k e m.
    All-contains (λ (c : Collision). Meets W cs c → ⊥) v.collisions (made_collision 12 a k Override IncompatibleClassChangeError) met
    (verdict.collisions.complete (made_collision 12 a k Override IncompatibleClassChangeError) (final_is O N a k e)) (inr (inr (refl, m))) in
    let stay = loads_kept O N cs pair q scope refl final in
    let g = ground O N cs pair q scope stay in
    let kx = named_client O N cs pair q scope X h in
    let kt = no_client_named O F t nc in
    let on = each_in IsOnMethod method_acts what on_methods one in
    let n = on.0 in
    let name : is_client_name O N X.facts.name ≡ true = All-contains (λ (c : ClientClass). is_client_name O N c.facts.name ≡ true) cs X scope.names h in
    let free = free_old O N X.facts.name name in
    let root = root_library O N F g in
    let fine = valid_item O N cs pair q scope X (handle_item what t k) h w in
    let links : outcome W X.facts.name (handle_item what t k) ≡ None = none_where (outcome W X.facts.name (handle_item what t k)) (handle_links W X.facts.name what t k ok) in
    let lx : load_fault W X.facts.name ≡ None = l in
    let us = usable O N cs g X kx lx free what t k n kt links in
    let now = stays_usable O N q t us in
    let uo = usable_parts O t us in
    let un = usable_parts N t now in
    let was : (is_none (outcome W X.facts.name (handle_item what t k)) && are_of_open O what t k) ≡ true = sym (handle_is O F g.fo X.facts.name X.facts kx free what t k n kt root uo.loaded) ∙ ok in
    let opened : are_of_open O what t k ≡ true = (and_parts (is_none (outcome W X.facts.name (handle_item what t k))) (are_of_open O what t k) was).1 in
    let plain : are_referable O what t k ≡ true = referable_side O F g.fo what t k n kt root uo.loaded ∙ p in
    let mk : is_key_of_method k ≡ true = subst (λ b. (b || is_key_of_method k) ≡ true) on.1 fine in
    let untold : is_told O N t k ≡ false = ap (λ o. is_some {T = Finding} o) (nothing (record { rule = METHOD_CLOSED; «class» = t; key = Some k; target = None })) in
    let still : are_of_open N what t k ≡ true = stays_open O N t k mk (stays_steady O N q t us) untold (none t k) what one (open_to_some O N cs g X kx lx free what t k n kt links) plain opened in
    let goes : outcome (with_clients N F) X.facts.name (handle_item what t k) ≡ None = (keeps O N v cs pair verdict empty scope met).uses X (handle_item what t k) h l w refl links in
    handle_is N F g.fn X.facts.name X.facts kx (free_new O N X.facts.name name) what t k n kt root un.loaded ∙ and_from (is_none (outcome (with_clients N F) X.facts.name (handle_item what t k))) (are_of_open N what t k) (ap (λ o. is_none {T = LinkError} o) goes) still
