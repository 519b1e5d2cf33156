-- What stands above what, on a side: an order without circles.
use Rattle.std.proofs.Common.{◌≡◌, Bool, true, false, List, [], ◌∷◌, refl, sym, ◌∙◌, ap, subst, Option, Some, None, not, ◌||◌, ◌&&◌, ◌⊎◌, inl, inr}
use Rattle.std.specs.List.{list_any, Contains}
use Rattle.std.proofs.lemmas.Bool.{or_cases, or_left, or_right, and_parts, and_from}
use Rattle.jc_facts.specs.declared.class_facts.ClassFacts.{ClassFacts}
use Rattle.jc_facts.specs.Names.{Bytes, same, object_name}
use Rattle.jc_facts.specs.Flags.{interface_flag}
use Rattle.jc_facts.specs.Options.{some_and}
use Rattle.jc_facts.specs.world.World.{World, find_class, DeclaredMember}
use Rattle.jc_facts.specs.world.Assignment.{is_interface_of}
use Rattle.jc_facts.specs.world.Search.{supers}
use Rattle.jc_facts.specs.world.Hierarchy.{chain, of_super, each, with_interfaces, interfaces_of, superinterfaces, is_superinterface, names_in}
use Rattle.jc_facts.specs.world.Loading.{load_fault, fault_of_interface}
use Rattle.jc_facts.proofs.Same.{same_is, same_itself}
use Rattle.jc_facts.proofs.World.{find-name}
use Rattle.jc_facts.proofs.Hierarchy.{names_in-each}
use Rattle.jc_lemmas.proofs.Bools.{contradicts, imply}
use Rattle.jc_lemmas.proofs.Listed.{EachOf, EachOf-both, each_in, any_has, any_passes, any_none, here, there}
use Rattle.jc_lemmas.proofs.Lists.{any_left}
use Rattle.jc_worlds.proofs.Above.{named_interface, named_interfaces, superinterfaces-each}
use Rattle.jc_worlds.proofs.Leads.{passes_on}
use Rattle.jc_worlds.proofs.Loaded.{loads-parts, loads-found, loads-induction}
use Rattle.jc_worlds.proofs.Locality.{of_interfaces}
use Rattle.jc_worlds.proofs.Offers.{superinterfaces-interface}
use Rattle.jc_worlds.proofs.Unrolled.{with_interfaces-unroll, superinterfaces-unroll}
use Rattle.jc_worlds.proofs.ValidFacts.{superclass_fits, fit_of}
use Rattle.jc_index.specs.Sides.{IsSide}
use Rattle.jc_index.proofs.Sides.{side_valid, root_at}

module _ (W : World) where
  -- an interface that loads
  abbrev pub IsGood : Bytes → Type 0
  IsGood y = (load_fault W y ≡ None) × (is_interface_of W y ≡ true)

  -- the interfaces that a class names
  pub named_good : (x : Bytes) (c : ClassFacts) → find_class W x ≡ Some c → load_fault W x ≡ None → EachOf IsGood c.interfaces
  named_good x c f h = EachOf-both kind c.interfaces (named_interfaces W c (loads-parts W x c f h).1) (of_interfaces (λ s. load_fault W s ≡ None) c.superclass c.interfaces (loads-parts W x c f h).0)
    where
      kind : (z : Bytes) → fault_of_interface W c z ≡ None → load_fault W z ≡ None → IsGood z
      kind z g l = let t = loads-found W z l in (l, ap (some_and (λ d. interface_flag d.flags)) t.1 ∙ named_interface W c t.0 z g t.1)

  -- a superinterface of a class that loads
  pub above_good : (x y : Bytes) → load_fault W x ≡ None → is_superinterface W x y ≡ true → IsGood y
  above_good x y h e =
      let p = any_passes (λ c. same c.name y) (superinterfaces W x) e in
      subst IsGood (same_is p.one.name y p.passes)
      (each_in (λ c. IsGood c.name) (superinterfaces W x) p.one
      (superinterfaces-each W (λ c. IsGood c.name) (λ z c f l i. let n : z ≡ c.name = sym (find-name W z c f) in (subst (λ w. load_fault W w ≡ None) n l, subst (λ w. is_interface_of W w ≡ true) n (ap (some_and (λ d. interface_flag d.flags)) f ∙ i))) x h) p.is_in)

  -- an interface that the class names
  pub named_above : (x i : Bytes) (c : ClassFacts) → find_class W x ≡ Some c → load_fault W x ≡ None → Contains c.interfaces i → (z : Bytes) → names_in (with_interfaces W i) z ≡ true → is_superinterface W x z ≡ true
  named_above x i c f h k z e =
      ap (λ cs. names_in cs z) (superinterfaces-unroll W x c f h)
      ∙ any_left (λ d. same d.name z) (each (with_interfaces W) c.interfaces) (interfaces_of W (of_super (chain W) c.superclass))
      (names_in-each (with_interfaces W) c.interfaces z ∙ any_has (λ i. names_in (with_interfaces W i) z) c.interfaces i k e)

  -- ---- interfaces of a side

  module _ (side : IsSide W) where
    -- an interface's superclass is the root
    pub super_of_interface : (y : Bytes) (c : ClassFacts) → find_class W y ≡ Some c → interface_flag c.flags ≡ true → c.superclass ≡ Some object_name
    super_of_interface y c f i = go c.superclass refl (fit_of c (side_valid W side y c f)).superclass
      where
        go : (s : Option Bytes) → c.superclass ≡ s → superclass_fits c s ≡ true → s ≡ Some object_name
        go None e v =
            let n : y ≡ object_name = sym (find-name W y c f) ∙ same_is c.name object_name v in
            let r : Some c ≡ Some side.root.root = sym f ∙ ap (find_class W) n ∙ root_at W side in
            let q : c ≡ side.root.root = cc in
            absurd (contradicts (interface_flag c.flags) i (ap (λ (d : ClassFacts). interface_flag d.flags) q ∙ side.root.«class»))
        go (Some s) e v =
            let p = and_parts (not (same c.name object_name)) (not (interface_flag c.flags) || same s object_name) v in
            ap Some (same_is s object_name (imply (interface_flag c.flags) (same s object_name) p.1 i))

    -- an interface leads to itself and to its superinterfaces
    pub interface_leads : (y : Bytes) (c : ClassFacts) → find_class W y ≡ Some c → load_fault W y ≡ None → interface_flag c.flags ≡ true → with_interfaces W y ≡ c ∷ superinterfaces W y
    interface_leads y c f h i =
        with_interfaces-unroll W y c f h
        ∙ ap (λ cs. c ∷ cs) (sym (superinterfaces-interface W side.root.root (root_at W side) side.root.superclass side.root.interfaces y c f h (super_of_interface y c f i)))

    interface_facts : (y : Bytes) → IsGood y → (c : ClassFacts) × (find_class W y ≡ Some c) × (interface_flag c.flags ≡ true)
    interface_facts y g = let t = loads-found W y g.0 in (t.0, t.1, sym (ap (some_and (λ d. interface_flag d.flags)) t.1) ∙ g.1)

    pub led_to : (y z : Bytes) → IsGood y → is_superinterface W y z ≡ true → names_in (with_interfaces W y) z ≡ true
    led_to y z g e =
        let t = interface_facts y g in
        ap (λ cs. names_in cs z) (interface_leads y t.0 t.1 g.0 t.2) ∙ or_right (same t.0.name z) (is_superinterface W y z) e

    pub transitive : (x y z : Bytes) → load_fault W x ≡ None → is_superinterface W x y ≡ true → is_superinterface W y z ≡ true → is_superinterface W x z ≡ true
    transitive x y z h a b = passes_on W x h y z a (led_to y z (above_good x y h a) b)

    -- no interface stands above itself
    abbrev pub NoCircle : Bytes → Type 0
    NoCircle y = is_interface_of W y ≡ true → is_superinterface W y y ≡ true → ⊥

    pub no_circle : (y : Bytes) → load_fault W y ≡ None → NoCircle y
    no_circle = loads-induction W NoCircle step
      where
        step : (y : Bytes) (c : ClassFacts) → find_class W y ≡ Some c → load_fault W y ≡ None → EachOf NoCircle (supers c) → NoCircle y
        step y c f h r k e =
            let i : interface_flag c.flags ≡ true = sym (ap (some_and (λ d. interface_flag d.flags)) f) ∙ k in
            let s : superinterfaces W y ≡ each (with_interfaces W) c.interfaces = superinterfaces-interface W side.root.root (root_at W side) side.root.superclass side.root.interfaces y c f h (super_of_interface y c f i) in
            let p = any_passes (λ i. names_in (with_interfaces W i) y) c.interfaces (sym (names_in-each (with_interfaces W) c.interfaces y) ∙ sym (ap (λ cs. names_in cs y) s) ∙ e) in
            by p.one p.is_in (each_in IsGood c.interfaces p.one (named_good y c f h) p.is_in) (each_in NoCircle c.interfaces p.one (of_interfaces NoCircle c.superclass c.interfaces r) p.is_in) p.passes
          where
            by : (z : Bytes) → Contains c.interfaces z → IsGood z → NoCircle z → names_in (with_interfaces W z) y ≡ true → ⊥
            by z n g more t =
                let d = interface_facts z g in
                go (or_cases (same d.0.name y) (is_superinterface W z y) (sym (ap (λ cs. names_in cs y) (interface_leads z d.0 d.1 g.0 d.2)) ∙ t))
              where
                go : (same (interface_facts z g).0.name y ≡ true) ⊎ (is_superinterface W z y ≡ true) → ⊥
                go (inl q) =
                    let m : y ≡ z = sym (same_is (interface_facts z g).0.name y q) ∙ find-name W z (interface_facts z g).0 (interface_facts z g).1 in
                    more g.1 (subst (λ w. is_superinterface W w w ≡ true) m e)
                go (inr q) =
                    let own : names_in (with_interfaces W z) z ≡ true = ap (λ cs. names_in cs z) (interface_leads z (interface_facts z g).0 (interface_facts z g).1 g.0 (interface_facts z g).2) ∙ or_left (same (interface_facts z g).0.name z) (is_superinterface W z z) (ap (λ w. same w z) (find-name W z (interface_facts z g).0 (interface_facts z g).1) ∙ same_itself z) in
                    more g.1 (passes_on W z g.0 y z q (led_to y z (h, k) (named_above y z c f h n z own)))

    -- ---- of which others stand below

    -- the class of this name is another, and has y's among its superinterfaces
    abbrev pub is_under : Bytes → Bytes → Bool
    is_under x y = not (same x y) && is_superinterface W x y

    under_further : (x y z : Bytes) → IsGood x → is_under x y ≡ true → is_under y z ≡ true → is_under x z ≡ true
    under_further x y z g a b = go (same x z) refl
      where
        p : (not (same x y) ≡ true) × (is_superinterface W x y ≡ true)
        p = and_parts (not (same x y)) (is_superinterface W x y) a

        q : (not (same y z) ≡ true) × (is_superinterface W y z ≡ true)
        q = and_parts (not (same y z)) (is_superinterface W y z) b

        up : is_superinterface W x z ≡ true
        up = transitive x y z g.0 p.1 q.1

        go : (t : Bool) → same x z ≡ t → is_under x z ≡ true
        go true e = absurd (no_circle x g.0 g.1 (subst (λ w. is_superinterface W x w ≡ true) (sym (same_is x z e)) up))
        go false e = and_from (not (same x z)) (is_superinterface W x z) (ap not e) up

    -- one of the methods, of whose class none of the others' stands below
    pub record IsTop (ms : List DeclaredMember) : Type 0 where
      pub one : DeclaredMember
      pub is_in : Contains ms one
      pub top : list_any (λ o. is_under o.owner one.owner) ms ≡ false

    pub some_top : (m : DeclaredMember) (ms : List DeclaredMember) → EachOf (λ o. IsGood o.owner) (m ∷ ms) → IsTop (m ∷ ms)
    some_top m [] g = record { one = m; is_in = here m []; top = any_none (λ o. is_under o.owner m.owner) (m ∷ []) (itself, tt) }
      where
        itself : is_under m.owner m.owner ≡ false
        itself = ap (λ b. not b && is_superinterface W m.owner m.owner) (same_itself m.owner)
    some_top m (n ∷ ns) g = go (some_top n ns g.1)
      where
        itself : is_under m.owner m.owner ≡ false
        itself = ap (λ b. not b && is_superinterface W m.owner m.owner) (same_itself m.owner)

        go : IsTop (n ∷ ns) → IsTop (m ∷ n ∷ ns)
        go t = by (is_under m.owner t.one.owner) refl
          where
            by : (b : Bool) → is_under m.owner t.one.owner ≡ b → IsTop (m ∷ n ∷ ns)
            by false e = record { one = t.one; is_in = there t.one m (n ∷ ns) t.is_in; top = ap (λ b. b || list_any (λ o. is_under o.owner t.one.owner) (n ∷ ns)) e ∙ t.top }
            by true e = record {
              one = m;
              is_in = here m (n ∷ ns);
              top = ap (λ b. b || list_any (λ o. is_under o.owner m.owner) (n ∷ ns)) itself ∙ none (list_any (λ o. is_under o.owner m.owner) (n ∷ ns)) refl;
            }
              where
                none : (b : Bool) → list_any (λ o. is_under o.owner m.owner) (n ∷ ns) ≡ b → b ≡ false
                none false q = refl
                none true q =
                    let p = any_passes (λ o. is_under o.owner m.owner) (n ∷ ns) q in
                    let w : is_under p.one.owner t.one.owner ≡ true = under_further p.one.owner m.owner t.one.owner (each_in (λ o. IsGood o.owner) (n ∷ ns) p.one g.1 p.is_in) p.passes e in
                    absurd (contradicts (list_any (λ o. is_under o.owner t.one.owner) (n ∷ ns)) (any_has (λ o. is_under o.owner t.one.owner) (n ∷ ns) p.one p.is_in w) t.top)
