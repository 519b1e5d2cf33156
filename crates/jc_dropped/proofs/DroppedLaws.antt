-- That only causes are listed, and that no class keeps fewer interfaces than the sides say.
--     none_lost      where nothing is dropped, nothing is lost
--     interfaces_stay, instances_stay      what follows for clients, without a verdict and with one
use Rattle.std.proofs.Common.{◌≡◌, Bool, true, false, cond, not, List, [], ◌∷◌, refl, sym, ◌∙◌, ap, subst, Option, Some, None, is_some, ◌||◌, ◌&&◌, ◌⊎◌, inl, inr}
use Rattle.std.proofs.lemmas.Bool.{and_parts, and_from, or_cases, or_left, or_right, both_ways}
use Rattle.std.specs.List.{Contains}
use Rattle.jc_facts.specs.declared.class_facts.ClassFacts.{ClassFacts}
use Rattle.jc_facts.specs.Names.{Bytes, same, object_name, in_same_package}
use Rattle.jc_facts.specs.Flags.{interface_flag}
use Rattle.jc_facts.specs.world.World.{World, find_class, class_named, with_clients, is_client}
use Rattle.jc_facts.specs.world.Modules.{is_visible}
use Rattle.jc_facts.specs.world.Search.{supers, supers_of}
use Rattle.jc_facts.specs.world.Access.{is_class_accessible}
use Rattle.jc_facts.specs.world.Hierarchy.{chain, of_super, each, with_interfaces, interfaces_of, superinterfaces, is_superinterface, names_in}
use Rattle.jc_facts.specs.world.Loading.{load_fault, fault_of_interface}
use Rattle.jc_facts.specs.world.Assignment.{is_interface_of}
use Rattle.jc_facts.specs.client.Valid.{facts_of}
use Rattle.jc_promises.specs.client.Names.{is_free_name, is_client_name}
use Rattle.jc_facts.specs.file.Valid.{IsValidClass}
use Rattle.jc_promises.specs.rule.Bases.{is_class_usable, is_kept, is_steady}
use Rattle.jc_promises.specs.rule.Exposed.{is_exposed}
use Rattle.jc_facts.specs.declared.dropped.Dropped.{Dropped}
use Rattle.jc_dropped.specs.Dropped.{is_exposed_to_some, stays_exposed, is_held, is_exposed_with, asks_for, has_lost, loses_interface, loses_above, is_dropped, AreDropped}
use Rattle.jc_dropped.proofs.Held.{held_loads, stays_loaded, some_seat, seat_of_some, with_some, exposed_with, above_is_interface, no_client}
use Rattle.jc_dropped.specs.InterfacesKept.{is_exposed_beside, DropNothing, NoneDroppedNoneLost, InterfacesStay, InstancesStay}
use Rattle.jc_lemmas.proofs.Listed.{none, EachOf, EachOf-map, EachOf-both, any_none}
use Rattle.jc_lemmas.proofs.Bools.{and_not}
use Rattle.jc_lemmas.proofs.Lists.{any_left, any_right, any_cases}
use Rattle.jc_facts.proofs.Hierarchy.{each-map}
use Rattle.jc_facts.proofs.Same.{same_is}
use Rattle.jc_promises.proofs.Pairs.{side_valid, new_root, new_platform_valid}
use Rattle.jc_facts.proofs.World.{names, find-name, class_named-name, EachOf-class_named}
use Rattle.jc_worlds.proofs.ValidFacts.{superclass_fits, fit_of}
use Rattle.jc_worlds.proofs.Loaded.{loads-parts, loads-found, loads-induction}
use Rattle.jc_worlds.proofs.Locality.{of_interfaces}
use Rattle.jc_worlds.proofs.Unrolled.{with_interfaces-unroll, superinterfaces-unroll}
use Rattle.jc_worlds.proofs.Bare.{bare_interfaces}
use Rattle.jc_worlds.proofs.Offers.{superinterfaces-interface}
use Rattle.jc_worlds.proofs.Above.{named_interface, named_interfaces, superinterfaces-each}
use Rattle.jc_worlds.proofs.Sides.{find-library, load_fault-side, superinterfaces-side, with_interfaces-side}
use Rattle.jc_worlds.proofs.Clients.{Fits, find-client, client_module}
use Rattle.jc_worlds.proofs.Packages.{same_package_apart}
use Rattle.jc_worlds.proofs.VisibleFrom.{accessible_parts, visible_from-client}
use Rattle.jc_sound.proofs.Assigned.{part_interface}
use Rattle.jc_sound.proofs.Standing.{Quiet, usable_parts, usable_from, all_quiet, stays_usable, stays_steady, stays_kept}
use Rattle.jc_sound.proofs.ClientLoads.{super_access}
use Rattle.jc_sound.proofs.ClientNames.{free_old, free_new, free_parts, fits_old, fits_new}
use Rattle.jc_sound.proofs.Scope.{client_of, scope_names}
use Rattle.jc_sound.proofs.FindingLaws.{empty_means_none}
use Rattle.jc_sound.proofs.SoundnessLaws.{keeps}

-- ---- causes alone

module _ (O N : World) (t : Bytes) (quiet : (x : Bytes) → is_dropped O N x t ≡ false) where
  -- where nothing above loses it, the class itself would drop it
  by_itself : (x : Bytes) → loses_above O N x t ≡ false → loses_interface O N x t ≡ false
  unfolding is_dropped
  by_itself x a = go (loses_interface O N x t) refl
    where
      go : (b : Bool) → loses_interface O N x t ≡ b → b ≡ false
      go false e = refl
      go true e = absurd (let z : (loses_interface O N x t && not (loses_above O N x t)) ≡ true = rw (e, a) refl in both_ways _ (quiet x) z)

  loaded : (x : Bytes) → load_fault O x ≡ None → loses_interface O N x t ≡ false
  loaded = loads-induction O (λ x. loses_interface O N x t ≡ false) (λ x c f h r.
      by_itself x (rw f (any_none (λ s. loses_interface O N s t) (supers c) r)))

  pub never_lost : (x : Bytes) → loses_interface O N x t ≡ false
  unfolding loses_interface
  never_lost x = go (is_held O N x) refl
    where
      go : (b : Bool) → is_held O N x ≡ b → loses_interface O N x t ≡ false
      go false e = rw e refl
      go true e = loaded x (held_loads O N x e).0

pub none_lost : NoneDroppedNoneLost
none_lost O N quiet x t = never_lost O N t (λ y. quiet y t) x

-- ---- a library class that a client names

module _ (W : World) (cs : List ClassFacts) (fits : Fits W cs) (free : EachOf (λ n. is_free_name W n ≡ true) (names cs)) where
  -- it is usable where it loads
  usable_above : (x : Bytes) (c : ClassFacts) → class_named cs x ≡ Some c → (y : Bytes) (d : ClassFacts) → class_named cs y ≡ None → find_class W y ≡ Some d → load_fault (with_clients W cs) y ≡ None
      → is_class_accessible (with_clients W cs) x d ≡ true → is_class_usable W y ≡ true
  usable_above x c e y d l f h a =
      let p = free_parts W x (EachOf-class_named (λ n. is_free_name W n ≡ true) cs x c e free) in
      let q : in_same_package x d.name ≡ false = same_package_apart W x y d p.apart f in
      let r = accessible_parts W x d q a in
      let v : is_visible W y ≡ true = subst (λ z. is_visible W z ≡ true) (find-name W y d f) (sym (visible_from-client W x d.name (client_module W cs fits x c e)) ∙ r.0) in
      usable_from W y d f v r.1 (load_fault-side W cs fits.bare fits.unused y l ∙ h)

  -- no superinterface of a library class is a client
  no_client_above : (x : Bytes) → load_fault W x ≡ None → EachOf (λ c. class_named cs c.name ≡ None) (superinterfaces W x)
  no_client_above x h = superinterfaces-each W (λ c. class_named cs c.name ≡ None) (λ y c f l i. go y c f (class_named cs c.name) refl) x h
    where
      go : (y : Bytes) (c : ClassFacts) → find_class W y ≡ Some c → (o : Option ClassFacts) → class_named cs c.name ≡ o → o ≡ None
      go y c f None e = refl
      go y c f (Some d) e = absurd (let z : find_class W c.name ≡ None = fits.undeclared c.name d e in let w : find_class W c.name ≡ Some c = ap (find_class W) (find-name W y c f) ∙ f in let q : None ≡ Some c = sym z ∙ w in cc)

-- one that these classes name isn't a client
not_among : (cs ds : List ClassFacts) (t : Bytes) (d : ClassFacts) → class_named cs t ≡ Some d → EachOf (λ c. class_named cs c.name ≡ None) ds → names_in ds t ≡ true → ⊥
not_among cs [] t d k h e = cc
not_among cs (c ∷ ds) t d k h e = go (or_cases (same c.name t) (names_in ds t) e) (not_among cs ds t d k h.1)
  where
    go : (same c.name t ≡ true) ⊎ (names_in ds t ≡ true) → (names_in ds t ≡ true → ⊥) → ⊥
    go (inl p) r = let z : Some d ≡ None = sym k ∙ ap (class_named cs) (sym (same_is c.name t p)) ∙ h.0 in cc
    go (inr p) r = r p

-- ---- the law, without a verdict

module _ (O N : World) (cs : List ClassFacts) (fo : Fits O cs) (fn : Fits N cs)
    (client_names : EachOf (λ n. is_client_name O N n ≡ true) (names cs))
    (valid_n : (x : Bytes) (c : ClassFacts) → find_class N x ≡ Some c → IsValidClass c)
    (root : ClassFacts) (root_n : find_class N object_name ≡ Some root) (root_super : root.superclass ≡ None) (root_interfaces : root.interfaces ≡ [])
    (t : Bytes) (lost : (x : Bytes) → loses_interface O N x t ≡ false) where
  abbrev pub VO : World
  VO = with_clients O cs

  abbrev pub VN : World
  VN = with_clients N cs

  free_o : EachOf (λ n. is_free_name O n ≡ true) (names cs)
  free_o = EachOf-map (free_old O N) (names cs) client_names

  free_n : EachOf (λ n. is_free_name N n ≡ true) (names cs)
  free_n = EachOf-map (free_new O N) (names cs) client_names

  abbrev test : ClassFacts → Bool
  test c = same c.name t

  -- for t clients can ask the class: t is a client or steady, or hidden, exposed to a seat with which the class takes part, and an interface
  abbrev pub is_asked : Bytes → Bool
  is_asked x = is_some (class_named cs t) || is_steady O N t || (is_interface_of N t && cond (is_some (class_named cs x)) (is_exposed_to_some O N t) (is_exposed_with O N x t))

  -- a client, or one of which clients can hold values, which can be asked for t
  abbrev pub Named : Bytes → Type 0
  Named x = ((is_some (class_named cs x) || is_held O N x) ≡ true) × (is_asked x ≡ true)

  pub record Stays (x : Bytes) : Type 0 where
    pub superinterfaces : load_fault VN x ≡ None → Named x → names_in (superinterfaces VO x) t ≡ true → names_in (superinterfaces VN x) t ≡ true
    pub itself : load_fault VN x ≡ None → Named x → is_interface_of VN x ≡ true → names_in (with_interfaces VO x) t ≡ true → names_in (with_interfaces VN x) t ≡ true

  -- ---- a library class

  held_at : (x : Bytes) → class_named cs x ≡ None → Named x → is_held O N x ≡ true
  held_at x k n = go (class_named cs x) k n.0
    where
      go : (o : Option ClassFacts) → o ≡ None → (is_some o || is_held O N x) ≡ true → is_held O N x ≡ true
      go None e h = h
      go (Some c) e h = absurd (cc)

  mapped : (a i b c : Bool) → (b ≡ true → c ≡ true) → (a || (i && b)) ≡ true → (a || (i && c)) ≡ true
  mapped true i b c f h = refl
  mapped false true b c f h = f h
  mapped false false b c f h = h

  second : (a b : Bool) → a ≡ true → (a && b) ≡ false → b ≡ false
  second true b p q = q
  second false b p q = absurd (cc)

  library_superinterfaces : (x : Bytes) → class_named cs x ≡ None → is_held O N x ≡ true → is_asked x ≡ true → names_in (superinterfaces O x) t ≡ true → names_in (superinterfaces N x) t ≡ true
  unfolding loses_interface has_lost asks_for
  library_superinterfaces x k u a e = go (class_named cs t) refl (subst (λ o. of (class_named cs t) o ≡ true) k a)
    where
      -- by what is said of t and of the class
      of : Option ClassFacts → Option ClassFacts → Bool
      of o p = is_some o || is_steady O N t || (is_interface_of N t && cond (is_some p) (is_exposed_to_some O N t) (is_exposed_with O N x t))

      go : (o : Option ClassFacts) → class_named cs t ≡ o → of o None ≡ true → names_in (superinterfaces N x) t ≡ true
      go (Some d) q h = absurd (not_among cs (superinterfaces O x) t d q (no_client_above O cs fo free_o x (held_loads O N x u).0) e)
      go None q h =
          and_not (asks_for O N x t && is_superinterface O x t) (is_superinterface N x t) (second (is_held O N x) (has_lost O N x t) u (lost x))
          (and_from (asks_for O N x t) (is_superinterface O x t) h e)

  at_library : (x : Bytes) → class_named cs x ≡ None → load_fault VO x ≡ None → Stays x
  at_library x k h = record {
    superinterfaces = λ n a e.
        subst (λ ds. names_in ds t ≡ true) (superinterfaces-side N cs fn.bare fn.unused x k (ln n))
        (library_superinterfaces x k (held_at x k a) a.1 (subst (λ ds. names_in ds t ≡ true) (sym (superinterfaces-side O cs fo.bare fo.unused x k lo)) e));
    itself = λ n a i e. interface n a i (subst (λ ds. names_in ds t ≡ true) (sym (with_interfaces-side O cs fo.bare fo.unused x k lo) ∙ with_interfaces-unroll O x co.0 co.1 lo) e);
  }
    where
      lo : load_fault O x ≡ None
      lo = load_fault-side O cs fo.bare fo.unused x k ∙ h

      ln : load_fault VN x ≡ None → load_fault N x ≡ None
      ln n = load_fault-side N cs fn.bare fn.unused x k ∙ n

      co : (c : ClassFacts) × (find_class O x ≡ Some c)
      co = loads-found O x lo

      interface : load_fault VN x ≡ None → Named x → is_interface_of VN x ≡ true → (same co.0.name t || names_in (each (with_interfaces O) co.0.interfaces) t) ≡ true → names_in (with_interfaces VN x) t ≡ true
      interface n a i e = subst (λ ds. names_in ds t ≡ true) (sym (with_interfaces-unroll N x d.0 d.1 (ln n)) ∙ with_interfaces-side N cs fn.bare fn.unused x k (ln n)) (go (or_cases (same co.0.name t) _ e))
        where
          d : (c : ClassFacts) × (find_class N x ≡ Some c)
          d = loads-found N x (ln n)

          is_one : interface_flag d.0.flags ≡ true
          is_one = let w : find_class VN x ≡ Some d.0 = sym (find-library N cs fn.bare x k) ∙ d.1 in rw w at i

          over : names_in (superinterfaces N x) t ≡ true → names_in (each (with_interfaces N) d.0.interfaces) t ≡ true
          over p = up d.0.superclass refl (fit_of d.0 (valid_n x d.0 d.1)).superclass
            where
              right_of : (b r : Bool) → b ≡ true → (not b || r) ≡ true → r ≡ true
              right_of true r p q = q
              right_of false r p q = absurd (cc)

              up : (o : Option Bytes) → d.0.superclass ≡ o → superclass_fits d.0 o ≡ true → names_in (each (with_interfaces N) d.0.interfaces) t ≡ true
              up None q v = absurd (
                  let y : x ≡ object_name = sym (find-name N x d.0 d.1) ∙ same_is d.0.name object_name v in
                  let w : find_class N x ≡ Some root = ap (find_class N) y ∙ root_n in
                  let s : Some d.0 ≡ Some root = sym d.1 ∙ w in
                  let z : d.0 ≡ root = cc in
                  let b : d.0.interfaces ≡ [] = ap (λ (f : ClassFacts). f.interfaces) z ∙ root_interfaces in
                  let m : superinterfaces N x ≡ [] = bare_interfaces N x d.0 d.1 q b in
                  let g : names_in [] t ≡ true = subst (λ ds. names_in ds t ≡ true) m p in cc)
              up (Some s) q v =
                  let w = and_parts (not (same d.0.name object_name)) (not (interface_flag d.0.flags) || same s object_name) v in
                  let y : s ≡ object_name = same_is s object_name (right_of (interface_flag d.0.flags) (same s object_name) is_one w.1) in
                  subst (λ ds. names_in ds t ≡ true) (superinterfaces-interface N root root_n root_super root_interfaces x d.0 d.1 (ln n) (q ∙ ap Some y)) p

          go : (same co.0.name t ≡ true) ⊎ (names_in (each (with_interfaces O) co.0.interfaces) t ≡ true) → (same d.0.name t || names_in (each (with_interfaces N) d.0.interfaces) t) ≡ true
          go (inl p) = or_left (same d.0.name t) _ (subst (λ z. same z t ≡ true) (find-name O x co.0 co.1 ∙ sym (find-name N x d.0 d.1)) p)
          go (inr p) = or_right (same d.0.name t) _ (over (library_superinterfaces x k (held_at x k a) a.1 (below p)))
            where
              below : names_in (each (with_interfaces O) co.0.interfaces) t ≡ true → names_in (superinterfaces O x) t ≡ true
              below p = subst (λ ds. names_in ds t ≡ true) (sym (superinterfaces-unroll O x co.0 co.1 lo)) (any_left test (each (with_interfaces O) co.0.interfaces) (interfaces_of O (of_super (chain O) co.0.superclass)) p)

  -- ---- a client

  -- what a client names is a client or kept, and can be asked as the client can
  named_above : (x : Bytes) (c : ClassFacts) → class_named cs x ≡ Some c → is_asked x ≡ true → load_fault VO x ≡ None → load_fault VN x ≡ None → EachOf Named (supers c)
  unfolding is_kept is_held
  named_above x c k asked h n =
      let fo' : find_class VO x ≡ Some c = find-client O cs fo x c k in
      let fn' : find_class VN x ≡ Some c = find-client N cs fn x c k in
      let po = loads-parts VO x c fo' h in
      let pn = loads-parts VN x c fn' n in
      EachOf-both (λ y (a : (load_fault VO y ≡ None) × ((d : ClassFacts) → find_class VO y ≡ Some d → is_class_accessible VO c.name d ≡ true)) (b : (load_fault VN y ≡ None) × ((d : ClassFacts) → find_class VN y ≡ Some d → is_class_accessible VN c.name d ≡ true)). one y a.0 a.1 b.0 b.1 (class_named cs y) refl) (supers c)
      (EachOf-both (λ y a b. (a, b)) (supers c) po.0 (super_access VO c po.1)) (EachOf-both (λ y a b. (a, b)) (supers c) pn.0 (super_access VN c pn.1))
    where
      -- by what is said of a class
      of : Option ClassFacts → Bool → Bool
      of o b = is_some (class_named cs t) || is_steady O N t || (is_interface_of N t && cond (is_some o) (is_exposed_to_some O N t) b)

      one : (y : Bytes) → load_fault VO y ≡ None → ((d : ClassFacts) → find_class VO y ≡ Some d → is_class_accessible VO c.name d ≡ true)
          → load_fault VN y ≡ None → ((d : ClassFacts) → find_class VN y ≡ Some d → is_class_accessible VN c.name d ≡ true)
          → (o : Option ClassFacts) → class_named cs y ≡ o → Named y
      one y lo ao ln an (Some d) q = (ap (λ o. is_some o || is_held O N y) q, ap (λ o. of o (is_exposed_with O N y t)) q ∙ sym (ap (λ o. of o (is_exposed_with O N x t)) k) ∙ asked)
      one y lo ao ln an None q =
          let to = loads-found VO y lo in
          let tn = loads-found VN y ln in
          let nm = class_named-name cs x c k in
          let kept : is_kept O N y ≡ true =
          and_from (is_class_usable O y) (is_class_usable N y)
          (usable_above O cs fo free_o x c k y to.0 q (find-library O cs fo.bare y q ∙ to.1) lo (subst (λ z. is_class_accessible VO z to.0 ≡ true) nm (ao to.0 to.1)))
          (usable_above N cs fn free_n x c k y tn.0 q (find-library N cs fn.bare y q ∙ tn.1) ln (subst (λ z. is_class_accessible VN z tn.0 ≡ true) nm (an tn.0 tn.1))) in (
            ap (λ o. is_some o || is_held O N y) q ∙ or_left (is_kept O N y) (stays_exposed O N y) kept,
            ap (λ o. of o (is_exposed_with O N y t)) q ∙ mapped (is_some (class_named cs t) || is_steady O N t) (is_interface_of N t) (is_exposed_to_some O N t) (is_exposed_with O N y t) (exposed_with O N y t kept)
                (sym (ap (λ o. of o (is_exposed_with O N x t)) k) ∙ asked),
          )

  at_client : (x : Bytes) (c : ClassFacts) → class_named cs x ≡ Some c → load_fault VO x ≡ None → EachOf Stays (supers c) → Stays x
  unfolding superinterfaces interfaces_of
  at_client x c k h r = record { superinterfaces = λ n a e. all n a.1 (any_cases test _ _ (subst (λ ds. names_in ds t ≡ true) (superinterfaces-unroll VO x c fo' h) e)); itself = λ n a i e. self n a.1 (or_cases (same c.name t) _ (subst (λ ds. names_in ds t ≡ true) (with_interfaces-unroll VO x c fo' h) e)) }
    where
      fo' : find_class VO x ≡ Some c
      fo' = find-client O cs fo x c k

      fn' : find_class VN x ≡ Some c
      fn' = find-client N cs fn x c k

      kind : (y : Bytes) → fault_of_interface VN c y ≡ None → load_fault VN y ≡ None → is_interface_of VN y ≡ true
      kind y f l = let s = loads-found VN y l in let q : interface_flag s.0.flags ≡ true = named_interface VN c s.0 y f s.1 in rw s.1 q

      -- by its interfaces
      interfaces : load_fault VN x ≡ None → is_asked x ≡ true → names_in (each (with_interfaces VO) c.interfaces) t ≡ true → names_in (each (with_interfaces VN) c.interfaces) t ≡ true
      interfaces n a e =
          let p = loads-parts VN x c fn' n in
          let loaded = of_interfaces (λ y. load_fault VN y ≡ None) c.superclass c.interfaces p.0 in
          let names = of_interfaces Named c.superclass c.interfaces (named_above x c k a h n) in
          let kinds = EachOf-both kind c.interfaces (named_interfaces VN c p.1) loaded in
          let both = EachOf-both (λ y (l : load_fault VN y ≡ None) (m : Named y). (l, m)) c.interfaces loaded names in
          let three = EachOf-both (λ y (b : (load_fault VN y ≡ None) × Named y) (i : is_interface_of VN y ≡ true). (b.0, b.1, i)) c.interfaces both kinds in
          each-map test (with_interfaces VO) (with_interfaces VN) c.interfaces
          (EachOf-both (λ y (s : Stays y) (b : (load_fault VN y ≡ None) × Named y × (is_interface_of VN y ≡ true)). s.itself b.0 b.1 b.2) c.interfaces (of_interfaces Stays c.superclass c.interfaces r) three) e

      -- by its superclass
      of_superclass : load_fault VN x ≡ None → (o : Option Bytes) (is : List Bytes) → EachOf Stays (supers_of o is) → EachOf (λ y. load_fault VN y ≡ None) (supers_of o is) → EachOf Named (supers_of o is)
          → names_in (interfaces_of VO (of_super (chain VO) o)) t ≡ true → names_in (interfaces_of VN (of_super (chain VN) o)) t ≡ true
      of_superclass n None is s l a e = e
      of_superclass n (Some y) is s l a e = s.0.superinterfaces l.0 a.0 e

      all : load_fault VN x ≡ None → is_asked x ≡ true → (names_in (each (with_interfaces VO) c.interfaces) t ≡ true) ⊎ (names_in (interfaces_of VO (of_super (chain VO) c.superclass)) t ≡ true) → names_in (superinterfaces VN x) t ≡ true
      all n a (inl p) = subst (λ ds. names_in ds t ≡ true) (sym (superinterfaces-unroll VN x c fn' n)) (any_left test (each (with_interfaces VN) c.interfaces) (interfaces_of VN (of_super (chain VN) c.superclass)) (interfaces n a p))
      all n a (inr p) =
          subst (λ ds. names_in ds t ≡ true) (sym (superinterfaces-unroll VN x c fn' n))
          (any_right test (each (with_interfaces VN) c.interfaces) (interfaces_of VN (of_super (chain VN) c.superclass)) (of_superclass n c.superclass c.interfaces r (loads-parts VN x c fn' n).0 (named_above x c k a h n) p))

      self : load_fault VN x ≡ None → is_asked x ≡ true → (same c.name t ≡ true) ⊎ (names_in (each (with_interfaces VO) c.interfaces) t ≡ true) → names_in (with_interfaces VN x) t ≡ true
      self n a (inl p) = subst (λ ds. names_in ds t ≡ true) (sym (with_interfaces-unroll VN x c fn' n)) (or_left (same c.name t) _ p)
      self n a (inr p) = subst (λ ds. names_in ds t ≡ true) (sym (with_interfaces-unroll VN x c fn' n)) (or_right (same c.name t) _ (interfaces n a p))

  pub stays : (x : Bytes) → load_fault VO x ≡ None → Stays x
  stays = loads-induction VO Stays (λ x c f h r. go x c f h r (class_named cs x) refl)
    where
      go : (x : Bytes) (c : ClassFacts) → find_class VO x ≡ Some c → load_fault VO x ≡ None → EachOf Stays (supers c) → (o : Option ClassFacts) → class_named cs x ≡ o → Stays x
      go x c f h r None k = at_library x k h
      go x c f h r (Some d) k =
          let s : d ≡ c = let w : Some d ≡ Some c = sym (find-client O cs fo x d k) ∙ f in cc in
          at_client x c (k ∙ ap Some s) h r

  pub stays_above : (x : Bytes) → load_fault VO x ≡ None → load_fault VN x ≡ None → Named x → names_in (superinterfaces VO x) t ≡ true → names_in (superinterfaces VN x) t ≡ true
  stays_above x h n a e = (stays x h).superinterfaces n a e

-- ---- the laws

pub interfaces_stay : InterfacesStay
unfolding is_client
interfaces_stay O N cs pair quiet scope x t h n a b e =
    stays_above O N (facts_of cs) (fits_old O N (facts_of cs) pair.run.old_bare client_names) (fits_new O N (facts_of cs) pair.run.new_bare client_names) client_names
    (side_valid N pair.run.new_bare (new_platform_valid O N pair) pair.new_valid) pair.root.root (new_root O N pair) pair.root.superclass pair.root.interfaces
    t (λ y. none_lost O N quiet y t) x h n (a, b) e
  where
    client_names : EachOf (λ n. is_client_name O N n ≡ true) (names (facts_of cs))
    client_names = scope_names O N cs scope

-- an empty list says so
pub drop_nothing : (O N : World) (ds : List Dropped) → AreDropped O N ds → ds ≡ [] → DropNothing O N
drop_nothing O N ds exact nothing x t = go (is_dropped O N x t) refl
  where
    go : (b : Bool) → is_dropped O N x t ≡ b → b ≡ false
    go false e = refl
    go true e = absurd (none (record { «class» = x; interface = t }) (subst (λ zs. Contains zs (record { «class» = x; interface = t })) nothing (exact.complete (record { «class» = x; interface = t }) e)))

pub instances_stay : InstancesStay
unfolding is_client is_held
instances_stay O N v ds pair verdict dropped empty nothing cs scope met x t h a b e =
    let n = loading (class_named (facts_of cs) x) refl a in (
      n,
      interfaces_stay O N cs pair (drop_nothing O N ds dropped nothing) scope x t h n
          (weaker (is_some (class_named (facts_of cs) x)) (is_class_usable O x || stays_exposed O N x) (is_held O N x) (holds x) (grouped (is_some (class_named (facts_of cs) x)) (is_class_usable O x) (stays_exposed O N x) a))
          (asked (is_some (class_named (facts_of cs) t)) (is_class_usable O t) (is_steady O N t) (is_exposed_beside O N (with_clients O (facts_of cs)) x t) (is_interface_of N t) (stays_steady O N q t) beside b) e,
    )
  where
    q : Quiet O N
    q = all_quiet O N (empty_means_none O N v verdict empty)

    weaker : (p b c : Bool) → (b ≡ true → c ≡ true) → (p || b) ≡ true → (p || c) ≡ true
    weaker true b c f k = refl
    weaker false b c f k = f k

    asked : (a u s b i : Bool) → (u ≡ true → s ≡ true) → (b ≡ true → i ≡ true) → (a || u || b) ≡ true → (a || s || (i && b)) ≡ true
    asked true u s b i f g k = refl
    asked false true s b i f g k = or_left s (i && b) (f refl)
    asked false false s b i f g k = or_right s (i && b) (and_from i b (g k) k)

    grouped : (a b c : Bool) → (a || b || c) ≡ true → (a || (b || c)) ≡ true
    grouped true b c k = refl
    grouped false b c k = k

    holds : (y : Bytes) → (is_class_usable O y || stays_exposed O N y) ≡ true → is_held O N y ≡ true
    holds y k = go (or_cases (is_class_usable O y) (stays_exposed O N y) k)
      where
        go : (is_class_usable O y ≡ true) ⊎ (stays_exposed O N y ≡ true) → (is_kept O N y || stays_exposed O N y) ≡ true
        go (inl u) = or_left (is_kept O N y) (stays_exposed O N y) (stays_kept O N q y u)
        go (inr s) = or_right (is_kept O N y) (stays_exposed O N y) s

    fo : Fits O (facts_of cs)
    fo = fits_old O N (facts_of cs) pair.run.old_bare (scope_names O N cs scope)

    fn : Fits N (facts_of cs)
    fn = fits_new O N (facts_of cs) pair.run.new_bare (scope_names O N cs scope)

    -- a hidden interface that is exposed is an interface still
    beside : is_exposed_beside O N (with_clients O (facts_of cs)) x t ≡ true → is_interface_of N t ≡ true
    beside k = go (to_some (class_named (facts_of cs) x) k)
      where
        to_some : (o : Option ClassFacts) → cond (is_some o) (is_exposed_to_some O N t) (is_exposed_with O N x t) ≡ true → is_exposed_to_some O N t ≡ true
        to_some (Some c) p = p
        to_some None p = let s = with_some O N x t p in some_seat O N (λ a. is_exposed O a t) s.0 s.1 s.2

        go : is_exposed_to_some O N t ≡ true → is_interface_of N t ≡ true
        go p =
            let s = seat_of_some O N (λ a. is_exposed O a t) p in
            part_interface O N q s.0 s.1 t (or_right (is_kept O N t) (is_exposed O s.0 t) s.2)
            (rw (find-library O (facts_of cs) fo.bare t (no_client O N (facts_of cs) fo t p)) (above_is_interface (with_clients O (facts_of cs)) x t h e))

    library : (is_class_usable O x || stays_exposed O N x) ≡ true → load_fault N x ≡ None
    library k = go (or_cases (is_class_usable O x) (stays_exposed O N x) k)
      where
        go : (is_class_usable O x ≡ true) ⊎ (stays_exposed O N x ≡ true) → load_fault N x ≡ None
        go (inl u) = (usable_parts N x (stays_usable O N q x u)).loaded
        go (inr s) = (stays_loaded O N x s).1

    loading : (o : Option ClassFacts) → class_named (facts_of cs) x ≡ o → (is_some o || is_class_usable O x || stays_exposed O N x) ≡ true → load_fault (with_clients N (facts_of cs)) x ≡ None
    loading None k u = sym (load_fault-side N (facts_of cs) fn.bare fn.unused x k) ∙ library u
    loading (Some c) k u =
        let w = client_of cs x c k in
        let m : w.client.facts.name ≡ x = ap (λ (f : ClassFacts). f.name) w.facts ∙ class_named-name (facts_of cs) x c k in
        subst (λ z. load_fault (with_clients N (facts_of cs)) z ≡ None) m
        ((keeps O N v cs pair verdict empty scope met).loading w.client w.is_in (subst (λ z. load_fault (with_clients O (facts_of cs)) z ≡ None) (sym m) h))
