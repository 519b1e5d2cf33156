-- Rules 1, 3, 4 and, of new objects, 5: the client U shows them.
use Rattle.std.proofs.Common.{◌≡◌, Bool, true, false, List, [], ◌∷◌, refl, sym, ◌∙◌, ap, subst, Some, None, not, ◌&&◌, ◌||◌}
use Rattle.std.proofs.lemmas.Bool.{and_parts, both_ways, not-true, or_left, or_right}
use Rattle.jc_facts.specs.declared.class_facts.ClassFacts.{ClassFacts}
use Rattle.jc_facts.specs.declared.client.Item.{Item}
use Rattle.jc_facts.specs.declared.client.Item.TheVariants as item
use Rattle.jc_facts.specs.declared.link_error.LinkError.{LinkError}
use Rattle.jc_facts.specs.declared.link_error.LinkError.TheVariants.{VerifyError}
use Rattle.jc_facts.specs.Names.{Bytes, same, object_name}
use Rattle.jc_facts.specs.world.Types.{is_array_text}
use Rattle.jc_facts.specs.world.World.{World, find_class, with_clients}
use Rattle.jc_facts.specs.world.Hierarchy.{in_chain, names_in}
use Rattle.jc_facts.specs.world.Assignment.{is_assignable, is_class_assignable, is_interface_of}
use Rattle.jc_facts.specs.world.Loading.{fault_where}
use Rattle.jc_facts.specs.client.Outcome.{outcome}
use Rattle.jc_promises.specs.client.Reach.{type_in_reach, is_in_reach}
use Rattle.jc_promises.specs.rule.Bases.{is_class_usable, is_kept}
use Rattle.jc_promises.specs.rule.Findings.{gone_error}
use Rattle.jc_promises.specs.plan.Planned.{Plan, names_class, assigns, takes, turns}
use Rattle.jc_complete.specs.Completeness.{Shows, MeetsNothing}
use Rattle.jc_facts.proofs.Same.{same_is}
use Rattle.jc_facts.proofs.World.{find-name}
use Rattle.jc_worlds.proofs.Clients.{Fits}
use Rattle.jc_sound.proofs.Standing.{IsUsable, usable_parts, usable_accessible}
use Rattle.jc_sound.proofs.ClassGoneLaw.{breaks}
use Rattle.jc_worlds.proofs.Bare.{bare_chain, bare_loads}
use Rattle.jc_complete.proofs.PlanGround.{Planned, Ready, letter}
use Rattle.jc_complete.proofs.PlanValid.{IsUse, use_takes, use_turns}
use Rattle.jc_complete.proofs.PlanLoads.{lib_find, lib_fault, lib_chain}
use Rattle.jc_complete.proofs.PlanSeats.{side_name, side_plain, assign_is, in_reach_if, assign_in_reach}
use Rattle.jc_complete.proofs.PlanUser as user

-- a plan shows the error and meets no collision
abbrev pub ShowsAlone : World → World → Plan → LinkError → Type 0
ShowsAlone O N p e = Shows O N p e × MeetsNothing O N p.clients

-- of classes of the side the world of clients says the same
assign_side : (W : World) (cs : List ClassFacts) (f : Fits W cs) (s t : Bytes) → IsUsable W s → IsUsable W t → is_class_assignable (with_clients W cs) s t ≡ is_class_assignable W s t
assign_side W cs f s t u v =
    let a : find_class (with_clients W cs) t ≡ find_class W t = lib_find W cs f t v.class v.is_there ∙ sym v.is_there in
    rw (a, lib_chain W cs f s u.class u.is_there u.loaded) refl

pub kept_usable : (O N : World) (x : Bytes) → is_kept O N x ≡ true → IsUsable O x × IsUsable N x
unfolding is_kept
kept_usable O N x h = let p = and_parts (is_class_usable O x) (is_class_usable N x) h in (usable_parts O x p.0, usable_parts N x p.1)

-- what rule 4 says: t left the chain of s, and is no interface
pub record IsCut (O N : World) (s t : Bytes) : Type 0 where
  pub differs : same s t ≡ false
  pub chain : in_chain O s t ≡ true
  pub cut : in_chain N s t ≡ false
  pub class : is_interface_of N t ≡ false

pub cut_parts : (O N : World) (s t : Bytes) → (not (same s t) && in_chain O s t && not (in_chain N s t) && not (is_interface_of N t)) ≡ true → IsCut O N s t
cut_parts O N s t h =
    let a = and_parts (not (same s t) && in_chain O s t && not (in_chain N s t)) (not (is_interface_of N t)) h in
    let b = and_parts (not (same s t) && in_chain O s t) (not (in_chain N s t)) a.0 in
    let c = and_parts (not (same s t)) (in_chain O s t) b.0 in
    record { differs = not-true (same s t) c.0; chain = c.1; cut = not-true (in_chain N s t) b.1; class = not-true (is_interface_of N t) a.1 }

-- what rule 3 says: i was an interface and isn't one
pub became_parts : (O N : World) (i : Bytes) → (is_interface_of O i && not (is_interface_of N i)) ≡ true → (is_interface_of O i ≡ true) × (is_interface_of N i ≡ false)
became_parts O N i h = let p = and_parts (is_interface_of O i) (not (is_interface_of N i)) h in (p.0, not-true (is_interface_of N i) p.1)

module _ (O N : World) (w : Bytes) (r : Ready O N w) where
  -- H1
  pub class_gone_is_shown : (x : Bytes) → is_class_usable O x ≡ true → is_class_usable N x ≡ false → ShowsAlone O N (names_class w x) (gone_error N x)
  class_gone_is_shown x was gone = (user.user_shows O N w r d fit items refl ((refl, both.0), tt) 1 (item.Class x) (gone_error N x) refl both.1, user.user_meets_nothing O N w r d fit items refl)
    where
      d : Bytes
      d = takes object_name

      fit : IsUse d
      fit = use_takes object_name refl

      items : List Item
      items = item.Class x ∷ []

      u : IsUsable O x
      u = usable_parts O x was

      both : (outcome (with_clients O ((user.U O N w r d fit items refl).facts ∷ [])) (letter w 85) (item.Class x) ≡ None) × (outcome (with_clients N ((user.U O N w r d fit items refl).facts ∷ [])) (letter w 85) (item.Class x) ≡ Some (gone_error N x))
      both = breaks O N _ (user.fo O N w r d fit items refl) (user.fn O N w r d fit items refl) (user.client_names O N w r d fit items refl) (letter w 85) (user.U O N w r d fit items refl).facts (user.named O N w r d fit items refl) x (side_plain r.root w O r.old x u.class u.is_there) was gone

  -- U returns an s as a t, both usable
  assign_is_shown : (s t : Bytes) → IsUsable O s → IsUsable O t → IsUsable N s → IsUsable N t → is_class_assignable O s t ≡ true → is_class_assignable N s t ≡ false → ShowsAlone O N (assigns w s t) VerifyError
  unfolding outcome
  assign_is_shown s t us ut ns nt was now = (user.user_shows O N w r d fit items refl ((reach, old), tt) 1 (item.Assign s t) VerifyError refl new, user.user_meets_nothing O N w r d fit items refl)
    where
      d : Bytes
      d = turns s t

      fit : IsUse d
      fit = use_turns s t (side_name r.root w O r.old s us.class us.is_there) (side_name r.root w O r.old t ut.class ut.is_there)

      items : List Item
      items = item.Assign s t ∷ []

      cs : List ClassFacts
      cs = (user.U O N w r d fit items refl).facts ∷ []

      fo : Fits O cs
      fo = user.fo O N w r d fit items refl

      fn : Fits N cs
      fn = user.fn O N w r d fit items refl

      ps : is_array_text s ≡ false
      ps = side_plain r.root w O r.old s us.class us.is_there

      pt : is_array_text t ≡ false
      pt = side_plain r.root w O r.old t ut.class ut.is_there

      reach_of : (y : Bytes) → is_array_text y ≡ false → (u : IsUsable O y) → type_in_reach (with_clients O cs) (letter w 85) ((user.U O N w r d fit items refl) ∷ []) y ≡ true
      reach_of y p u = in_reach_if (with_clients O cs) (letter w 85) ((user.U O N w r d fit items refl) ∷ []) y u.class p (lib_find O cs fo y u.class u.is_there) (lib_fault O cs fo y u.class u.is_there ∙ u.loaded) (usable_accessible O y u (letter w 85))

      reach : is_in_reach (with_clients O cs) (letter w 85) ((user.U O N w r d fit items refl) ∷ []) (item.Assign s t) ≡ true
      reach = assign_in_reach (with_clients O cs) (letter w 85) ((user.U O N w r d fit items refl) ∷ []) s t (reach_of s ps us) (reach_of t pt ut)

      old : fault_where (not (is_assignable (with_clients O cs) s t)) VerifyError ≡ None
      old = rw (assign_is (with_clients O cs) s t ps pt ∙ assign_side O cs fo s t us ut ∙ was) refl

      new : fault_where (not (is_assignable (with_clients N cs) s t)) VerifyError ≡ Some VerifyError
      new = rw (assign_is (with_clients N cs) s t ps pt ∙ assign_side N cs fn s t ns nt ∙ now) refl

  pub none_of_three : (a b c : Bool) → a ≡ false → b ≡ false → c ≡ false → (a || b || c) ≡ false
  none_of_three true b c p q s = absurd (cc)
  none_of_three false true c p q s = absurd (cc)
  none_of_three false false c p q s = s

  -- an s was assignable to t, and isn't
  pub cut_assigns : (s t : Bytes) → IsCut O N s t → (is_class_assignable O s t ≡ true) × (is_class_assignable N s t ≡ false)
  cut_assigns s t h = (or_right (same s t || is_interface_of O t) (in_chain O s t) h.chain, none_of_three (same s t) (is_interface_of N t) (in_chain N s t) h.differs h.class h.cut)

  -- H4
  pub superclass_lost_is_shown : (s t : Bytes) → IsCut O N s t → is_kept O N s ≡ true → is_kept O N t ≡ true → ShowsAlone O N (assigns w s t) VerifyError
  superclass_lost_is_shown s t h a b =
      let us = kept_usable O N s a in
      let ut = kept_usable O N t b in
      let c = cut_assigns s t h in
      assign_is_shown s t us.0 ut.0 us.1 ut.1 c.0 c.1

  abbrev pub root_usable : (W : World) → Planned r.root w W → IsUsable W object_name
  root_usable W p = record { class = r.root; is_there = p.there; visible = p.visible; public = r.is_root.public; loaded = bare_loads W object_name r.root p.there r.is_root.superclass r.is_root.interfaces }

  -- H3. The class is another than java/lang/Object, which was no interface
  pub class_differs : (i : Bytes) → is_interface_of O i ≡ true → same object_name i ≡ false
  class_differs i h = go (same object_name i) refl
    where
      go : (b : Bool) → same object_name i ≡ b → b ≡ false
      go false p = refl
      go true p = absurd (both_ways (is_interface_of O object_name) (rw r.old.there r.is_root.class) (subst (λ z. is_interface_of O z ≡ true) (sym (same_is object_name i p)) h))

  -- java/lang/Object was assignable to the interface, and isn't
  pub became_assigns : (i : Bytes) → is_interface_of O i ≡ true → is_interface_of N i ≡ false → (is_class_assignable O object_name i ≡ true) × (is_class_assignable N object_name i ≡ false)
  became_assigns i was now = (
    or_left (same object_name i || is_interface_of O i) (in_chain O object_name i) (or_right (same object_name i) (is_interface_of O i) was),
    none_of_three (same object_name i) (is_interface_of N i) (in_chain N object_name i) (class_differs i was) now (only_root (class_differs i was)),
  )
    where
      only_root : same object_name i ≡ false → in_chain N object_name i ≡ false
      only_root o =
          ap (λ cs. names_in cs i) (bare_chain N object_name r.root r.new.there r.is_root.superclass r.is_root.interfaces)
          ∙ ap (λ n. same n i || false) (find-name N object_name r.root r.new.there) ∙ rw o refl

  pub interface_became_class_is_shown : (i : Bytes) → is_interface_of O i ≡ true → is_interface_of N i ≡ false → is_kept O N i ≡ true → ShowsAlone O N (assigns w object_name i) VerifyError
  interface_became_class_is_shown i was now k =
      let u = kept_usable O N i k in
      let c = became_assigns i was now in
      assign_is_shown object_name i (root_usable O r.old) u.0 (root_usable N r.new) u.1 c.0 c.1
