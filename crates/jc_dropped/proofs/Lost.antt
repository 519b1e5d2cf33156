-- Who loses an interface that a class drops: a client for each, and for each client that loses one a class that drops it.
use Rattle.std.proofs.Common.{◌≡◌, Bool, true, false, cond, not, List, [], ◌∷◌, refl, sym, ◌∙◌, ap, subst, Option, Some, None, is_some, is_none, ◌||◌, ◌&&◌, ◌⊎◌, inl, inr}
use Rattle.std.specs.List.{list_any, Contains}
use Rattle.std.proofs.lemmas.Bool.{and_parts, and_from, or_cases, or_left, or_right, not-true, not-false}
use Rattle.std.proofs.lemmas.List.Elements.{All-from_recursion, All-contains, Contains-push}
use Rattle.jc_facts.specs.declared.act.Act.TheVariants.{GetField, Override}
use Rattle.jc_facts.specs.declared.class_facts.ClassFacts.{ClassFacts}
use Rattle.jc_facts.specs.declared.client.ClientClass.{ClientClass}
use Rattle.jc_facts.specs.declared.client.Item.{Item}
use Rattle.jc_facts.specs.declared.client.Item.TheVariants as item
use Rattle.jc_facts.specs.declared.client.Place.TheVariants.{Other}
use Rattle.jc_facts.specs.declared.key.Key.{Key}
use Rattle.jc_facts.specs.declared.link_error.LinkError.TheVariants.{IllegalAccessError, IncompatibleClassChangeError}
use Rattle.jc_facts.specs.declared.verdict.Collision.{Collision}
use Rattle.jc_facts.specs.Flags.{interface_flag}
use Rattle.jc_facts.specs.Names.{Bytes, same, object_name}
use Rattle.jc_facts.specs.Options.{some_and, and_then}
use Rattle.jc_facts.specs.world.Types.{is_array_text}
use Rattle.jc_facts.specs.world.World.{World, find_class, class_named, classes, with_clients}
use Rattle.jc_facts.specs.world.Access.{is_class_accessible}
use Rattle.jc_facts.specs.world.Hierarchy.{is_superinterface, names_in, in_chain}
use Rattle.jc_facts.specs.world.Assignment.{is_interface_of, is_class_assignable}
use Rattle.jc_facts.specs.world.Loading.{load_fault, loads, fault_where}
use Rattle.jc_facts.specs.client.Outcome.{Links, class_fault}
use Rattle.jc_facts.specs.client.Valid.{facts_of}
use Rattle.jc_promises.specs.client.Scope.{IsInScope}
use Rattle.jc_promises.specs.client.Reach.{is_opened_by, class_in_reach, type_in_reach, is_invoke_interface}
use Rattle.jc_promises.specs.client.Meets.{Meets, MeetsFinal}
use Rattle.jc_promises.specs.rule.Bases.{is_class_usable, is_kept, became_class, is_steady, is_base_class}
use Rattle.jc_promises.specs.rule.Collisions.{made_collision, final_added}
use Rattle.jc_promises.specs.rule.Exposed.{is_exposed}
use Rattle.jc_promises.specs.rule.Findings.{takes_part}
use Rattle.jc_promises.specs.Pairs.{IsPair}
use Rattle.jc_promises.specs.plan.PlannedNames.{fresh_package}
use Rattle.jc_promises.proofs.Pairs.{side_valid, new_root, new_platform_valid}
use Rattle.jc_facts.proofs.Options.{or_else-none}
use Rattle.jc_worlds.proofs.Sides.{find-library, load_fault-side}
use Rattle.jc_facts.proofs.World.{EachOf-find, find-name}
use Rattle.jc_lemmas.proofs.Bools.{contradicts, and_not}
use Rattle.jc_lemmas.proofs.Listed.{any_passes, each_from, not_any, cases, none}
use Rattle.jc_lemmas.proofs.Options.{none_where}
use Rattle.jc_worlds.proofs.Above.{fault_where-none}
use Rattle.jc_worlds.proofs.AgreementLaw.{each_name}
use Rattle.jc_worlds.proofs.Alike.{class_step-named}
use Rattle.jc_worlds.proofs.Loaded.{loads-found}
use Rattle.jc_worlds.proofs.ValidFacts.{fit_of}
use Rattle.jc_sound.proofs.ClientItems.{IsHeld, client, library, held, LibraryPart, of_kept, of_exposed, TakesPart, of_client, of_library, PartText, PartType}
use Rattle.jc_sound.proofs.Context.{named_class}
use Rattle.jc_sound.proofs.FindingLaws.{empty_means_none}
use Rattle.jc_sound.proofs.Ground.{Ground, root_usable as root_usable_of}
use Rattle.jc_sound.proofs.OpenActs.{IsSeat}
use Rattle.jc_sound.proofs.Opening.{opens_exposed}
use Rattle.jc_sound.proofs.Reach.{seat_x}
use Rattle.jc_sound.proofs.Seats.{SeatOf}
use Rattle.jc_sound.proofs.ReachInSight.{reach_is_in_sight}
use Rattle.jc_sound.proofs.Sight.{item_part}
use Rattle.jc_sound.proofs.Sound.{KeepsLoads, loads_kept, ground, named_client, valid_item}
use Rattle.jc_sound.proofs.SoundnessLaws.{final_is}
use Rattle.jc_sound.proofs.Standing.{IsUsable, class_is-there, Quiet, all_quiet, stays_kept, stays_steady, usable_accessible}
use Rattle.jc_complete.specs.Completeness.{CanPlan, LinksWhole}
use Rattle.jc_complete.proofs.PlanActs.{seat_base}
use Rattle.jc_complete.proofs.PlanConstructorClosed.{class_says}
use Rattle.jc_complete.proofs.PlanParts.{IsPart, part_usable, part_exposed}
use Rattle.jc_complete.proofs.PlanGround.{Ready}
use Rattle.jc_complete.proofs.PlanItems.{class_links}
use Rattle.jc_complete.proofs.PlanLoads.{lib_find, lib_fault, lib_interfaces}
use Rattle.jc_complete.proofs.PlanReady.{ready_of}
use Rattle.jc_complete.proofs.PlanSeats.{side_plain}
use Rattle.jc_complete.proofs.PlanUses.{kept_usable}
use Rattle.jc_dropped.specs.Dropped.{is_exposed_to_some, stays_exposed, is_held, is_exposed_with, is_taken, asks_for, has_lost, loses_interface, loses_above, is_dropped}
use Rattle.jc_dropped.specs.Lost.{MayName, HandsOver, Loses, SomeClientLoses, EachDroppedIsLost, EachLossIsListed}
use Rattle.jc_dropped.proofs.Handing.{Hands, part_hands}
use Rattle.jc_dropped.proofs.Held.{held_loads, some_seat, seat_of_some, with_some, some_with, above_is_interface}
use Rattle.jc_dropped.proofs.DroppedLaws.{never_lost, stays_above}

-- a class of that name that is in reach
reached_class : (V : World) (y x : Bytes) (cs : List ClientClass) → is_array_text x ≡ false → type_in_reach V y cs x ≡ class_in_reach V y cs x
unfolding type_in_reach
reached_class V y x cs p = rw (named_class x p) refl

-- ---- each that is dropped is lost

-- a client that holds values of a held class, with an interface that clients can name
module _ (O N : World) (can : CanPlan O N) (x t : Bytes) where
  abbrev w : Bytes
  w = fresh_package O N

  abbrev r : Ready O N w
  r = ready_of O N can

  -- below this seat, with which x takes part
  at_seat : (a : Bytes) → IsSeat O N a → takes_part O N a x ≡ true → IsPart O a t → is_class_assignable O x t ≡ true → is_class_assignable N x t ≡ true → Hands O N x t
  at_seat a seat p q = part_hands O N w r a (seat_base O N w r a (base seat)) x t (part (or_cases (is_kept O N x) (is_exposed O a x) p)) q
    where
      base : IsSeat O N a → (a ≡ object_name) ⊎ (is_base_class O N a ≡ true)
      base (inl e) = inl e
      base (inr b) = inr b.0

      part : (is_kept O N x ≡ true) ⊎ (is_exposed O a x ≡ true) → IsPart O a x
      part (inl k) = part_usable O a x (kept_usable O N x k).0
      part (inr e) = part_exposed O r.old.valid a x e

  hands : is_held O N x ≡ true → (is_steady O N t ≡ true) ⊎ (is_taken O N x t ≡ true) → is_class_assignable O x t ≡ true → is_class_assignable N x t ≡ true → Hands O N x t
  unfolding is_held stays_exposed is_steady
  hands h (inr taken) =
      let s = with_some O N x t (and_parts (is_interface_of N t) (is_exposed_with O N x t) taken).1 in
      at_seat s.0 s.1 s.3 (part_exposed O r.old.valid s.0 t s.2)
  hands h (inl steady) = go (or_cases (is_kept O N x) (is_exposed_to_some O N x && loads N x) h)
    where
      ut : IsUsable O t
      ut = (kept_usable O N t (and_parts (is_kept O N t) (not (became_class O N t)) steady).0).0

      go : (is_kept O N x ≡ true) ⊎ ((is_exposed_to_some O N x && loads N x) ≡ true) → is_class_assignable O x t ≡ true → is_class_assignable N x t ≡ true → Hands O N x t
      go (inl k) = at_seat object_name (inl refl) (or_left (is_kept O N x) (is_exposed O object_name x) k) (part_usable O object_name t ut)
      go (inr e) =
          let s = seat_of_some O N (λ a. is_exposed O a x) (and_parts (is_exposed_to_some O N x) (loads N x) e).0 in
          at_seat s.0 s.1 (or_right (is_kept O N x) (is_exposed O s.0 x) s.2) (part_usable O s.0 t ut)

  loses : is_dropped O N x t ≡ true → SomeClientLoses O N x t
  unfolding is_dropped loses_interface has_lost asks_for is_steady became_class
  loses h = record {
    clients = st.client ∷ [];
    in_scope = st.scope.0;
    allowed_names = st.scope.1;
    links = All-from_recursion (LinksWhole VO (st.client ∷ [])) (st.client ∷ []) (st.links, tt);
    meets_nothing = st.alone;
    client = st.client;
    loses = record {
      is_in = Contains-push [] st.client;
      loads_old = st.links.0;
      loads_new = st.loads_new;
      holds = holds;
      stays = lib_fault N F st.fits_new x cn.0 cn.1 ∙ l.1;
      asks = asks (or_cases (is_steady O N t) (is_taken O N x t) four.0);
      interface_old = ap (some_and (λ (c : ClassFacts). interface_flag c.flags)) (lib_find O F st.fits_old t to.0 to.1 ∙ sym to.1) ∙ kind;
      interface_new = ap (some_and (λ (c : ClassFacts). interface_flag c.flags)) (lib_find N F st.fits_new t tn.0 tn.1 ∙ sym tn.1) ∙ still;
      had = ap (λ cs. names_in cs t) (lib_interfaces O F st.fits_old x co.0 co.1 l.0) ∙ lost.0;
      lost = ap (λ cs. names_in cs t) (lib_interfaces N F st.fits_new x cn.0 cn.1 l.1) ∙ lost.1;
    };
  }
    where
      parts : (loses_interface O N x t ≡ true) × (not (loses_above O N x t) ≡ true)
      parts = and_parts (loses_interface O N x t) (not (loses_above O N x t)) h

      two : (is_held O N x ≡ true) × (has_lost O N x t ≡ true)
      two = and_parts (is_held O N x) (has_lost O N x t) parts.0

      three : ((asks_for O N x t && is_superinterface O x t) ≡ true) × (not (is_superinterface N x t) ≡ true)
      three = and_parts (asks_for O N x t && is_superinterface O x t) (not (is_superinterface N x t)) two.1

      four : (asks_for O N x t ≡ true) × (is_superinterface O x t ≡ true)
      four = and_parts (asks_for O N x t) (is_superinterface O x t) three.0

      lost : (is_superinterface O x t ≡ true) × (is_superinterface N x t ≡ false)
      lost = (four.1, not-true (is_superinterface N x t) three.1)

      l : (load_fault O x ≡ None) × (load_fault N x ≡ None)
      l = held_loads O N x two.0

      co : (c : ClassFacts) × (find_class O x ≡ Some c)
      co = loads-found O x l.0

      cn : (c : ClassFacts) × (find_class N x ≡ Some c)
      cn = loads-found N x l.1

      kind : is_interface_of O t ≡ true
      kind = above_is_interface O x t l.0 lost.0

      still : is_interface_of N t ≡ true
      still = go (or_cases (is_steady O N t) (is_taken O N x t) four.0)
        where
          go : (is_steady O N t ≡ true) ⊎ (is_taken O N x t ≡ true) → is_interface_of N t ≡ true
          go (inl steady) =
              let p = and_parts (is_kept O N t) (not (became_class O N t)) steady in
              and_not (is_kept O N t && is_interface_of O t) (is_interface_of N t) (not-true (is_kept O N t && is_interface_of O t && not (is_interface_of N t)) p.1) (and_from (is_kept O N t) (is_interface_of O t) p.0 kind)
          go (inr taken) = (and_parts (is_interface_of N t) (is_exposed_with O N x t) taken).0

      to : (c : ClassFacts) × (find_class O t ≡ Some c)
      to = let z = class_is-there O (λ d. interface_flag d.flags) t kind in (z.0, z.1)

      tn : (c : ClassFacts) × (find_class N t ≡ Some c)
      tn = let z = class_is-there N (λ d. interface_flag d.flags) t still in (z.0, z.1)

      st : Hands O N x t
      st = hands two.0 (or_cases (is_steady O N t) (is_taken O N x t) four.0)
          (or_left (same x t || is_interface_of O t) (in_chain O x t) (or_right (same x t) (is_interface_of O t) kind))
          (or_left (same x t || is_interface_of N t) (in_chain N x t) (or_right (same x t) (is_interface_of N t) still))

      y : Bytes
      y = st.client.facts.name

      F : List ClassFacts
      F = st.client.facts ∷ []

      VO : World
      VO = with_clients O F

      VN : World
      VN = with_clients N F

      plain : is_array_text t ≡ false
      plain = side_plain r.root w O r.old t to.0 to.1

      holds : class_in_reach VO y (st.client ∷ []) x ≡ true
      holds = sym (reached_class VO y x (st.client ∷ []) (side_plain r.root w O r.old x co.0 co.1)) ∙ st.holds

      asks : (is_steady O N t ≡ true) ⊎ (is_taken O N x t ≡ true) → MayName O N (st.client ∷ []) st.client t ⊎ HandsOver O N (st.client ∷ []) st.client x t
      asks (inl steady) =
          let u = kept_usable O N t (and_parts (is_kept O N t) (not (became_class O N t)) steady).0 in
          let ut = u.0 in
          let un = u.1 in
          inl (record {
            old = class_says VO y t ∙ class_links VO y t ut.class plain (lib_find O F st.fits_old t ut.class ut.is_there) (lib_fault O F st.fits_old t ut.class ut.is_there ∙ ut.loaded) (usable_accessible O t ut y);
            new = class_says VN y t ∙ class_links VN y t un.class plain (lib_find N F st.fits_new t un.class un.is_there) (lib_fault N F st.fits_new t un.class un.is_there ∙ un.loaded) (usable_accessible N t un y);
          })
      asks (inr taken) = inr (record {
        holds = holds;
        takes = sym (reached_class VO y t (st.client ∷ []) plain) ∙ st.takes;
        is_in = st.is_in;
        old = st.old;
        new = st.new;
      })

pub each_is_lost : EachDroppedIsLost
each_is_lost O N can x t h = loses O N can x t h

-- ---- each that is lost is listed

only : (c d : ClientClass) → Contains (c ∷ []) d → c ≡ d
only c d i = go (cases c [] d i)
  where
    go : (c ≡ d) ⊎ Contains [] d → c ≡ d
    go (inl e) = e
    go (inr j) = absurd (none d j)

module _ (O N : World) (cs : List ClientClass) (pair : IsPair O N) (q : Quiet O N) (scope : IsInScope O N cs) (stay : KeepsLoads O N cs pair q scope) (c : ClientClass) (x t : Bytes) (l : Loses O N cs c x t) where
  abbrev F : List ClassFacts
  F = facts_of cs

  abbrev VO : World
  VO = with_clients O F

  abbrev VN : World
  VN = with_clients N F

  abbrev g : Ground O N F
  g = ground O N cs pair q scope stay

  abbrev kc : class_named F c.facts.name ≡ Some c.facts
  kc = named_client O N cs pair q scope c l.is_in

  x_loads : load_fault VO x ≡ None
  x_loads = none_where (load_fault VO x) (and_parts (loads VO x) _ l.holds).0

  plain : (y : Bytes) → (d : ClassFacts) → find_class VO y ≡ Some d → is_array_text y ≡ false
  plain y d e = subst (λ z. is_array_text z ≡ false) (find-name VO y d e) (fit_of d (g.valid_o y d e)).name

  abbrev Takes : Bytes → Type 0
  Takes y = TakesPart O N F g.fo g.fn g.quiet g.client_names g.clients_load y

  -- a client, or one of which clients hold values
  held_x : (is_some (class_named F x) || is_held O N x) ≡ true
  unfolding is_held stays_exposed
  held_x = go part.1
    where
      d : (d : ClassFacts) × (find_class VO x ≡ Some d)
      d = loads-found VO x x_loads

      at : is_array_text x ≡ false
      at = plain x d.0 d.1

      key : Key
      key = record { name = []; descriptor = [] }

      reads : Item
      reads = item.Access GetField x key (Some x) Other

      part : (load_fault VO x ≡ None) × Takes x
      part = by (item_part O N cs pair q scope stay c l.is_in reads (reach_is_in_sight O N cs pair scope c reads l.is_in l.loads_old
          (or_left (type_in_reach VO c.facts.name cs x) (is_invoke_interface GetField) (reached_class VO c.facts.name x cs at ∙ l.holds))) x refl)
        where
          by : PartType O N F g.fo g.fn g.quiet g.client_names g.clients_load x ⊎ (is_invoke_interface GetField ≡ true) → (load_fault VO x ≡ None) × Takes x
          by (inl p) = subst (λ o. PartText O N F g.fo g.fn g.quiet g.client_names g.clients_load o) (named_class x at) p
          by (inr e) = absurd (cc)

      n_loads : class_named F x ≡ None → loads N x ≡ true
      n_loads k = ap is_none (load_fault-side N F g.fn.bare g.fn.unused x k ∙ l.stays)

      go : Takes x → (is_some (class_named F x) || (is_kept O N x || (is_exposed_to_some O N x && loads N x))) ≡ true
      go (of_client e k) = or_left (is_some (class_named F x)) (is_kept O N x || (is_exposed_to_some O N x && loads N x)) (ap is_some k)
      go (of_library k p) = or_right (is_some (class_named F x)) (is_kept O N x || (is_exposed_to_some O N x && loads N x)) (by p)
        where
          by : LibraryPart O N F g.fo g.fn g.quiet g.client_names g.clients_load x → (is_kept O N x || (is_exposed_to_some O N x && loads N x)) ≡ true
          by (of_kept h) = or_left (is_kept O N x) (is_exposed_to_some O N x && loads N x) h
          by (of_exposed a i d h) = or_right (is_kept O N x) (is_exposed_to_some O N x && loads N x) (and_from (is_exposed_to_some O N x) (loads N x) (some_seat O N (λ b. is_exposed O b x) a i h) (n_loads k))

  -- ---- for t it can be asked

  -- what is said of x and t
  abbrev is_asked : Bool
  is_asked = is_some (class_named F t) || is_steady O N t || (is_interface_of N t && cond (is_some (class_named F x)) (is_exposed_to_some O N t) (is_exposed_with O N x t))

  -- where the client may name t
  by_name : Links VO c.facts.name (item.Class t) → (is_some (class_named F t) || is_steady O N t) ≡ true
  unfolding class_fault and_then
  by_name links = go (held O N F g.fo g.fn g.quiet g.client_names g.clients_load c.facts.name c.facts kc t p.0 access)
    where
      found : (d : ClassFacts) × (find_class VO t ≡ Some d)
      found = let z = class_is-there VO (λ d. interface_flag d.flags) t l.interface_old in (z.0, z.1)

      step : class_fault VO c.facts.name t ≡ None
      step = sym (class_step-named VO c.facts.name t (plain t found.0 found.1)) ∙ sym (class_says VO c.facts.name t) ∙ links

      p : (load_fault VO t ≡ None) × (and_then (λ d. fault_where (not (is_class_accessible VO c.facts.name d)) IllegalAccessError) (find_class VO t) ≡ None)
      p = or_else-none (load_fault VO t) (and_then (λ d. fault_where (not (is_class_accessible VO c.facts.name d)) IllegalAccessError) (find_class VO t)) step

      access : (d : ClassFacts) → find_class VO t ≡ Some d → is_class_accessible VO c.facts.name d ≡ true
      access d e = let z : fault_where (not (is_class_accessible VO c.facts.name d)) IllegalAccessError ≡ None = rw e at p.1 in not-false (is_class_accessible VO c.facts.name d) (fault_where-none (not (is_class_accessible VO c.facts.name d)) IllegalAccessError z)

      go : IsHeld O N F g.fo g.fn g.quiet g.client_names g.clients_load t → (is_some (class_named F t) || is_steady O N t) ≡ true
      go (client d k) = or_left (is_some (class_named F t)) (is_steady O N t) (ap is_some k)
      go (library k u) = or_right (is_some (class_named F t)) (is_steady O N t) (stays_steady O N q t u)

  -- the seat of the client
  abbrev st : SeatOf O N F g.fo g.fn g.quiet g.client_names g.open_supers g.rooted g.interface_root (root_usable_of O N F g) c.facts.name
  st = seat_x O N F g c.facts.name c.facts kc l.loads_old

  -- a hidden library class that the client itself has in reach is exposed to its seat
  own : (y : Bytes) → class_in_reach VO c.facts.name (c ∷ []) y ≡ true → class_named F y ≡ None → is_class_usable O y ≡ false → is_exposed O st.seat y ≡ true
  own y reach k u = go (or_cases (some_and (is_class_accessible VO c.facts.name) (find_class VO y)) (list_any (is_opened_by VO y) (c ∷ [])) p.1)
    where
      p : (loads VO y ≡ true) × ((some_and (is_class_accessible VO c.facts.name) (find_class VO y) || list_any (is_opened_by VO y) (c ∷ [])) ≡ true)
      p = and_parts (loads VO y) (some_and (is_class_accessible VO c.facts.name) (find_class VO y) || list_any (is_opened_by VO y) (c ∷ [])) reach

      ly : load_fault VO y ≡ None
      ly = none_where (load_fault VO y) p.0

      named : IsHeld O N F g.fo g.fn g.quiet g.client_names g.clients_load y → is_exposed O st.seat y ≡ true
      named (client d e) = absurd (let clash : None ≡ Some d = sym k ∙ e in cc)
      named (library e h) = absurd (contradicts (is_class_usable O y) h u)

      go : (some_and (is_class_accessible VO c.facts.name) (find_class VO y) ≡ true) ⊎ (list_any (is_opened_by VO y) (c ∷ []) ≡ true) → is_exposed O st.seat y ≡ true
      go (inl a) =
          named (held O N F g.fo g.fn g.quiet g.client_names g.clients_load c.facts.name c.facts kc y ly (λ d f. let w : is_class_accessible VO c.facts.name d ≡ true = rw f at a in w))
      go (inr o) =
          let z = any_passes (is_opened_by VO y) (c ∷ []) o in
          let e : c ≡ z.one = only c z.one z.is_in in
          let w : is_opened_by VO y c ≡ true = subst (λ d. is_opened_by VO y d ≡ true) (sym e) z.passes in
          opens_exposed O N cs g c kc l.loads_old (λ i m. valid_item O N cs pair q scope c i l.is_in m) y k ly u (and_parts (loads VO c.facts.name) _ w).1

  -- where the client hands values over where t is asked for
  by_hand : HandsOver O N cs c x t → is_asked ≡ true
  by_hand h = go (class_named F t) refl
    where
      others : Bool
      others = is_interface_of N t && cond (is_some (class_named F x)) (is_exposed_to_some O N t) (is_exposed_with O N x t)

      hidden : class_named F t ≡ None → is_exposed O st.seat t ≡ true → (o : Option ClassFacts) → class_named F x ≡ o → cond (is_some o) (is_exposed_to_some O N t) (is_exposed_with O N x t) ≡ true
      hidden k e (Some d) kx = some_seat O N (λ a. is_exposed O a t) st.seat st.is_seat e
      hidden k e None kx = some_with O N x t st.seat st.is_seat e (part (is_class_usable O x) refl)
        where
          part : (b : Bool) → is_class_usable O x ≡ b → takes_part O N st.seat x ≡ true
          part true u = or_left (is_kept O N x) (is_exposed O st.seat x) (stays_kept O N q x u)
          part false u = or_right (is_kept O N x) (is_exposed O st.seat x) (own x h.holds kx u)

      library : class_named F t ≡ None → (b : Bool) → is_class_usable O t ≡ b → is_asked ≡ true
      library k true u = or_left (is_some (class_named F t) || is_steady O N t) others (or_right (is_some (class_named F t)) (is_steady O N t) (stays_steady O N q t u))
      library k false u =
          or_right (is_some (class_named F t) || is_steady O N t) others
          (and_from (is_interface_of N t) (cond (is_some (class_named F x)) (is_exposed_to_some O N t) (is_exposed_with O N x t))
          (rw (find-library N F g.fn.bare t k) l.interface_new) (hidden k (own t h.takes k u) (class_named F x) refl))

      go : (o : Option ClassFacts) → class_named F t ≡ o → is_asked ≡ true
      go (Some d) k = or_left (is_some (class_named F t) || is_steady O N t) others (or_left (is_some (class_named F t)) (is_steady O N t) (ap is_some k))
      go None k = library k (is_class_usable O t) refl

  asked : is_asked ≡ true
  asked = go l.asks
    where
      go : MayName O N cs c t ⊎ HandsOver O N cs c x t → is_asked ≡ true
      go (inl m) = or_left (is_some (class_named F t) || is_steady O N t) (is_interface_of N t && cond (is_some (class_named F x)) (is_exposed_to_some O N t) (is_exposed_with O N x t)) (by_name m.old)
      go (inr h) = by_hand h

  not_none : ((y : Bytes) → is_dropped O N y t ≡ false) → ⊥
  not_none quiet =
      contradicts (is_superinterface VN x t)
      (stays_above O N F g.fo g.fn g.client_names (side_valid N pair.run.new_bare (new_platform_valid O N pair) pair.new_valid) pair.root.root (new_root O N pair) pair.root.superclass pair.root.interfaces
      t (never_lost O N t quiet) x x_loads l.stays (held_x, asked) l.had) l.lost

  -- some class of the old side drops it
  some_drops : (y : Bytes) × (is_dropped O N y t ≡ true)
  unfolding is_dropped loses_interface
  some_drops = go (list_any (λ (d : ClassFacts). is_dropped O N d.name t) (classes O)) refl
    where
      here_or_nowhere : list_any (λ (d : ClassFacts). is_dropped O N d.name t) (classes O) ≡ false → (y : Bytes) → is_dropped O N y t ≡ false
      here_or_nowhere e y = by (is_dropped O N y t) refl
        where
          by : (b : Bool) → is_dropped O N y t ≡ b → b ≡ false
          by false f = refl
          by true f =
              let k = held_loads O N y (and_parts (is_held O N y) (has_lost O N y t) (and_parts (loses_interface O N y t) (not (loses_above O N y t)) f).0).0 in
              let d = loads-found O y k.0 in
              absurd (contradicts (is_dropped O N y t) f (EachOf-find (λ n. is_dropped O N n t ≡ false) O y d.0 d.1
              (each_name (λ n. is_dropped O N n t ≡ false) (classes O) (each_from (λ (d : ClassFacts). is_dropped O N d.name t ≡ false) (classes O) (λ d i. not_any (λ (d : ClassFacts). is_dropped O N d.name t) (classes O) d e i)))))

      go : (b : Bool) → list_any (λ (d : ClassFacts). is_dropped O N d.name t) (classes O) ≡ b → (y : Bytes) × (is_dropped O N y t ≡ true)
      go true e = let p = any_passes (λ (d : ClassFacts). is_dropped O N d.name t) (classes O) e in (p.one.name, p.passes)
      go false e = absurd (not_none (here_or_nowhere e))

pub each_is_listed : EachLossIsListed
each_is_listed O N v ds pair verdict empty dropped cs scope met c x t l =
    let W = with_clients O (facts_of cs) in
    let q = all_quiet O N (empty_means_none O N v verdict empty) in
    let final : (a : Bytes) (k : Key) → final_added O N a k ≡ true → MeetsFinal W cs a k → ⊥ = λ a k e m.
    All-contains (λ (c : Collision). Meets W cs c → ⊥) v.collisions (made_collision 12 a k Override IncompatibleClassChangeError) met
    (verdict.collisions.complete (made_collision 12 a k Override IncompatibleClassChangeError) (final_is O N a k e)) (inr (inr (refl, m))) in
    let y = some_drops O N cs pair q scope (loads_kept O N cs pair q scope refl final) c x t l in
    (record { «class» = y.0; interface = t }, dropped.complete (record { «class» = y.0; interface = t }) y.1, refl)
