-- The classes that have rows, and what stands above them.
use Rattle.std.proofs.Common.{◌≡◌, Bool, true, false, ◌||◌, ◌&&◌, not, List, [], ◌++◌, refl, sym, ◌∙◌, ap, subst, Option, Some, None, ◌⊎◌, inl, inr}
use Rattle.std.specs.Prelude.{is_none, is_some}
use Rattle.std.specs.List.{list_any, Contains}
use Rattle.std.proofs.lemmas.Bool.{and_parts, and_from, or_cases, or_left, or_right}
use Rattle.jc_facts.specs.declared.class_facts.ClassFacts.{ClassFacts}
use Rattle.jc_facts.specs.declared.key.Key.{Key}
use Rattle.jc_facts.specs.Names.{Bytes, same, object_name}
use Rattle.jc_facts.specs.Flags.{interface_flag}
use Rattle.jc_facts.specs.file.Rules.{is_object_name, implies}
use Rattle.jc_facts.specs.file.Valid.{is_valid_name, superclass_is_valid}
use Rattle.jc_facts.specs.world.World.{World, classes, size, find_class, own_field_of, own_method_of}
use Rattle.jc_facts.specs.world.Search.{supers, supers_of, descend}
use Rattle.jc_facts.specs.world.Hierarchy.{chain, chain_step, of_super, each, with_interfaces, interfaces_of, superinterfaces, names_in, in_chain, is_superinterface}
use Rattle.jc_facts.specs.world.Loading.{load_fault}
use Rattle.jc_facts.proofs.Hierarchy.{names_in-each, each-all}
use Rattle.jc_facts.proofs.Same.{same_is}
use Rattle.jc_facts.proofs.World.{find-name, class_named-each, IsOf}
use Rattle.jc_lemmas.proofs.Bools.{imply, and_false, neither_first, neither_last}
use Rattle.jc_lemmas.proofs.Listed.{EachOf, EachOf-map, EachOf-both, EachOf-append, Passes, each_in, each_from, any_has, any_passes, any_none, not_any}
use Rattle.jc_lemmas.proofs.Lists.{any_left, any_right, any_weaker}
use Rattle.jc_worlds.specs.Hierarchy.{above}
use Rattle.jc_worlds.proofs.Above.{chain-each, superinterfaces-each}
use Rattle.jc_worlds.proofs.Bare.{bare_loads, has_root}
use Rattle.jc_worlds.proofs.Loaded.{loads-found, loads-parts, loads-induction}
use Rattle.jc_worlds.proofs.Locality.{of_interfaces}
use Rattle.jc_worlds.proofs.Unrolled.{above as up, in_chain-step, own_chain, chain-unroll, with_interfaces-unroll, superinterfaces-unroll}
use Rattle.jc_index.specs.Above.{leads_to}
use Rattle.jc_index.specs.Lookups.{declare_field, declare_method}
use Rattle.jc_index.specs.Sides.{IsSide}
use Rattle.jc_index.proofs.Aboves.{superinterface-is, leads-on, leads-itself}
use Rattle.jc_index.proofs.Numbers.{is_none-None}
use Rattle.jc_index.proofs.Sides.{side_valid, root_at}
use Rattle.jc_rows.specs.Keys.{declares_with_rows}
use Rattle.jc_rows.specs.WithRows.{is_above, stands_on_release, has_rows}

module _ (W : World) where
  -- x is the class y, a superclass of it or a superinterface
  abbrev pub is_over : Bytes → Bytes → Bool
  is_over y x = in_chain W y x || is_superinterface W y x

  -- ---- what holds of all that a class names

  module _ (S : Bytes → Type 0) (steps : (x : Bytes) (c : ClassFacts) → find_class W x ≡ Some c → load_fault W x ≡ None → S x → EachOf S (supers c)) where
    abbrev pub Has : ClassFacts → Type 0
    Has c = S c.name

    own : (x : Bytes) (c : ClassFacts) → find_class W x ≡ Some c → S x → Has c
    own x c f h = subst S (sym (find-name W x c f)) h

    chain_rest : (o : Option Bytes) (is : List Bytes) → EachOf S (supers_of o is) → EachOf (λ s. S s → EachOf Has (chain W s)) (supers_of o is) → EachOf Has (of_super (chain W) o)
    chain_rest None is u r = tt
    chain_rest (Some s) is u r = r.0 u.0

    chain_has : (x : Bytes) → load_fault W x ≡ None → S x → EachOf Has (chain W x)
    chain_has = loads-induction W (λ x. S x → EachOf Has (chain W x)) (λ x c f l r h.
        subst (EachOf Has) (sym (chain-unroll W x c f l)) (own x c f h, chain_rest c.superclass c.interfaces (steps x c f l h) r))

    named_has : (P : Bytes → List ClassFacts) (c : ClassFacts) → EachOf S (supers c) → EachOf (λ s. S s → EachOf Has (P s)) c.interfaces → EachOf Has (each P c.interfaces)
    named_has P c u r = each-all Has P c.interfaces (EachOf-both (λ s g k. k g) c.interfaces (of_interfaces S c.superclass c.interfaces u) r)

    led_has : (x : Bytes) → load_fault W x ≡ None → S x → EachOf Has (with_interfaces W x)
    led_has = loads-induction W (λ x. S x → EachOf Has (with_interfaces W x)) (λ x c f l r h.
        subst (EachOf Has) (sym (with_interfaces-unroll W x c f l))
        (own x c f h, named_has (with_interfaces W) c (steps x c f l h) (of_interfaces (λ s. S s → EachOf Has (with_interfaces W s)) c.superclass c.interfaces r)))

    superinterface_rest : (o : Option Bytes) (is : List Bytes) → EachOf S (supers_of o is) → EachOf (λ s. S s → EachOf Has (superinterfaces W s)) (supers_of o is) → EachOf Has (interfaces_of W (of_super (chain W) o))
    unfolding superinterfaces interfaces_of
    superinterface_rest None is u r = tt
    superinterface_rest (Some s) is u r = r.0 u.0

    superinterfaces_have : (x : Bytes) → load_fault W x ≡ None → S x → EachOf Has (superinterfaces W x)
    superinterfaces_have = loads-induction W (λ x. S x → EachOf Has (superinterfaces W x)) (λ x c f l r h.
        subst (EachOf Has) (sym (superinterfaces-unroll W x c f l))
        (EachOf-append Has (each (with_interfaces W) c.interfaces) (interfaces_of W (of_super (chain W) c.superclass))
        (named_has (with_interfaces W) c (steps x c f l h) (EachOf-map led_has c.interfaces (of_interfaces (λ s. load_fault W s ≡ None) c.superclass c.interfaces (loads-parts W x c f l).0)))
        (superinterface_rest c.superclass c.interfaces (steps x c f l h) r)))

    -- it holds of all classes above
    pub all_above : (x : Bytes) → load_fault W x ≡ None → S x → EachOf (λ c. S c.name) (above W x)
    all_above x l h = EachOf-append Has (chain W x) (superinterfaces W x) (chain_has x l h) (superinterfaces_have x l h)

    named : (cs : List ClassFacts) → EachOf Has cs → (x : Bytes) → names_in cs x ≡ true → S x
    named cs h x k = let p = any_passes (λ c. same c.name x) cs k in subst S (same_is p.one.name x p.passes) (each_in Has cs p.one h p.is_in)

    over_has : (y : Bytes) → load_fault W y ≡ None → S y → (x : Bytes) → is_over y x ≡ true → S x
    over_has y l h x o = go (or_cases (in_chain W y x) (is_superinterface W y x) o)
      where
        go : (in_chain W y x ≡ true) ⊎ (is_superinterface W y x ≡ true) → S x
        go (inl k) = named (chain W y) (chain_has y l h) x k
        go (inr k) = named (superinterfaces W y) (superinterfaces_have y l h) x k

    -- what holds of java/lang/Object and of what stands on the release holds of all that has rows
    pub rows_least : S object_name → ((y : Bytes) → stands_on_release W y ≡ true → S y) → (x : Bytes) → has_rows W x ≡ true → S x
    unfolding has_rows
    rows_least root standing x h = go (or_cases (is_above W x object_name) (list_any (λ d. stands_on_release W d.name && is_above W x d.name) (classes W)) h)
      where
        by : (y : Bytes) → S y → is_above W x y ≡ true → S x
        by y s a = let p = and_parts (is_none (load_fault W y)) (is_over y x) a in over_has y (is_none-None (load_fault W y) p.0) s x p.1

        go : (is_above W x object_name ≡ true) ⊎ (list_any (λ d. stands_on_release W d.name && is_above W x d.name) (classes W) ≡ true) → S x
        go (inl a) = by object_name root a
        go (inr a) =
            let q = any_passes (λ d. stands_on_release W d.name && is_above W x d.name) (classes W) a in
            let p = and_parts (stands_on_release W q.one.name) (is_above W x q.one.name) q.passes in
            by q.one.name (standing q.one.name p.0) p.1

  -- ---- java/lang/Object and what stands on the release

  pub over-itself : (x : Bytes) → load_fault W x ≡ None → is_over x x ≡ true
  over-itself x l = or_left (in_chain W x x) (is_superinterface W x x) (own_chain W x l)

  above_from : (x y : Bytes) → load_fault W y ≡ None → is_over y x ≡ true → is_above W x y ≡ true
  above_from x y l o = and_from (is_none (load_fault W y)) (is_over y x) (ap is_none l) o

  -- what stands on the release loads
  pub standing-loads : (y : Bytes) → stands_on_release W y ≡ true → load_fault W y ≡ None
  unfolding stands_on_release
  standing-loads y h =
      let p = any_passes (λ c. is_above W c.name y) (W.release ++ W.clients) h in
      is_none-None (load_fault W y) (and_parts (is_none (load_fault W y)) (is_over y p.one.name) p.passes).0

  -- a class of the release is above it
  pub standing-over : (y : Bytes) → stands_on_release W y ≡ true → Passes (λ c. is_over y c.name) (W.release ++ W.clients)
  unfolding stands_on_release
  standing-over y h =
      let p = any_passes (λ c. is_above W c.name y) (W.release ++ W.clients) h in
      record { one = p.one; is_in = p.is_in; passes = (and_parts (is_none (load_fault W y)) (is_over y p.one.name) p.passes).1 }

  pub standing-from : (y : Bytes) → load_fault W y ≡ None → (c : ClassFacts) → Contains (W.release ++ W.clients) c → is_over y c.name ≡ true → stands_on_release W y ≡ true
  unfolding stands_on_release
  standing-from y l c i o = any_has (λ d. is_above W d.name y) (W.release ++ W.clients) c i (above_from c.name y l o)

  in_classes : (y : Bytes) (c : ClassFacts) → find_class W y ≡ Some c → Contains (classes W) c
  unfolding find_class
  in_classes y c f = class_named-each (Contains (classes W)) (classes W) y c (each_from (Contains (classes W)) (classes W) (λ d i. i)) f

  over-object : load_fault W object_name ≡ None → (x : Bytes) → is_over object_name x ≡ true → has_rows W x ≡ true
  unfolding has_rows
  over-object l x o = or_left (is_above W x object_name) (list_any (λ d. stands_on_release W d.name && is_above W x d.name) (classes W)) (above_from x object_name l o)

  over-standing : (y : Bytes) → stands_on_release W y ≡ true → (x : Bytes) → is_over y x ≡ true → has_rows W x ≡ true
  unfolding has_rows
  over-standing y h x o =
      let l = standing-loads y h in
      let t = loads-found W y l in
      let both : (stands_on_release W y && is_above W x y) ≡ true = and_from (stands_on_release W y) (is_above W x y) h (above_from x y l o) in
      or_right (is_above W x object_name) (list_any (λ d. stands_on_release W d.name && is_above W x d.name) (classes W))
      (any_has (λ d. stands_on_release W d.name && is_above W x d.name) (classes W) t.0 (in_classes y t.0 t.1)
      (subst (λ (z : Bytes). (stands_on_release W z && is_above W x z) ≡ true) (sym (find-name W y t.0 t.1)) both))

  pub rows-standing : (y : Bytes) → stands_on_release W y ≡ true → has_rows W y ≡ true
  rows-standing y h = over-standing y h y (over-itself y (standing-loads y h))

  -- a class that has rows stands above one of which all that is above has rows
  record IsBelow (x : Bytes) : Type 0 where
    name : Bytes
    loads : load_fault W name ≡ None
    over : is_over name x ≡ true
    all : (y : Bytes) → is_over name y ≡ true → has_rows W y ≡ true

  below : (x : Bytes) → has_rows W x ≡ true → IsBelow x
  unfolding has_rows
  below x h = go (or_cases (is_above W x object_name) (list_any (λ d. stands_on_release W d.name && is_above W x d.name) (classes W)) h)
    where
      parts : (y : Bytes) → is_above W x y ≡ true → (load_fault W y ≡ None) × (is_over y x ≡ true)
      parts y a = let p = and_parts (is_none (load_fault W y)) (is_over y x) a in (is_none-None (load_fault W y) p.0, p.1)

      go : (is_above W x object_name ≡ true) ⊎ (list_any (λ d. stands_on_release W d.name && is_above W x d.name) (classes W) ≡ true) → IsBelow x
      go (inl a) = let p = parts object_name a in record { name = object_name; loads = p.0; over = p.1; all = over-object p.0 }
      go (inr a) =
          let q = any_passes (λ d. stands_on_release W d.name && is_above W x d.name) (classes W) a in
          let b = and_parts (stands_on_release W q.one.name) (is_above W x q.one.name) q.passes in
          let p = parts q.one.name b.1 in
          record { name = q.one.name; loads = p.0; over = p.1; all = over-standing q.one.name b.0 }

  -- ---- what is named by what is above

  -- what is above the superclass is above the class
  over-super : (y : Bytes) (d : ClassFacts) → find_class W y ≡ Some d → load_fault W y ≡ None → (s : Bytes) → d.superclass ≡ Some s → (x : Bytes) → is_over s x ≡ true → is_over y x ≡ true
  unfolding superinterfaces
  over-super y d f l s e x o = go (or_cases (in_chain W s x) (is_superinterface W s x) o)
    where
      go : (in_chain W s x ≡ true) ⊎ (is_superinterface W s x ≡ true) → is_over y x ≡ true
      go (inl c) = or_left (in_chain W y x) (is_superinterface W y x)
          (in_chain-step W y x d l f ∙ or_right (same d.name x) (up (λ z. in_chain W z x) d.superclass) (ap (up (λ z. in_chain W z x)) e ∙ c))
      go (inr i) = or_right (in_chain W y x) (is_superinterface W y x)
          (ap (λ cs. names_in cs x) (superinterfaces-unroll W y d f l ∙ ap (λ t. each (with_interfaces W) d.interfaces ++ interfaces_of W (of_super (chain W) t)) e)
          ∙ any_right (λ c. same c.name x) (each (with_interfaces W) d.interfaces) (superinterfaces W s) i)

  -- what the class itself names
  pub over-named : (y : Bytes) (d : ClassFacts) → find_class W y ≡ Some d → load_fault W y ≡ None → EachOf (λ s. is_over y s ≡ true) (supers d)
  over-named y d f l = go d.superclass refl all_load
    where
      all_load : EachOf (λ s. load_fault W s ≡ None) (supers d)
      all_load = (loads-parts W y d f l).0

      one : (i : Bytes) → Contains d.interfaces i → is_over y i ≡ true
      one i k =
          let t = loads-found W i (each_in (λ s. load_fault W s ≡ None) d.interfaces i (of_interfaces (λ s. load_fault W s ≡ None) d.superclass d.interfaces all_load) k) in
          or_right (in_chain W y i) (is_superinterface W y i)
          (ap (λ cs. names_in cs i) (superinterfaces-unroll W y d f l)
          ∙ any_left (λ c. same c.name i) (each (with_interfaces W) d.interfaces) (interfaces_of W (of_super (chain W) d.superclass))
          (names_in-each (with_interfaces W) d.interfaces i ∙ any_has (λ j. names_in (with_interfaces W j) i) d.interfaces i k (leads-itself W i t.0 t.1)))

      interfaces : EachOf (λ s. is_over y s ≡ true) d.interfaces
      interfaces = each_from (λ s. is_over y s ≡ true) d.interfaces one

      go : (o : Option Bytes) → d.superclass ≡ o → EachOf (λ s. load_fault W s ≡ None) (supers_of o d.interfaces) → EachOf (λ s. is_over y s ≡ true) (supers_of o d.interfaces)
      go None e h = interfaces
      go (Some s) e h = (over-super y d f l s e s (over-itself s h.0), interfaces)

  abbrev NamesAbove : Bytes → Type 0
  NamesAbove y = (x : Bytes) (c : ClassFacts) → find_class W x ≡ Some c → in_chain W y x ≡ true → EachOf (λ s. is_over y s ≡ true) (supers c)

  chain_step-names : (y : Bytes) (d : ClassFacts) → find_class W y ≡ Some d → load_fault W y ≡ None → EachOf NamesAbove (supers d) → NamesAbove y
  chain_step-names y d f l r x c g h = go (same d.name x) refl d.superclass refl r (sym (in_chain-step W y x d l f) ∙ h)
    where
      go : (b : Bool) → same d.name x ≡ b → (o : Option Bytes) → d.superclass ≡ o → EachOf NamesAbove (supers_of o d.interfaces) → (b || up (λ s. in_chain W s x) o) ≡ true → EachOf (λ s. is_over y s ≡ true) (supers c)
      go true e o q r k =
          let is : d ≡ c = (let p : Some d ≡ Some c = sym f ∙ ap (find_class W) (sym (find-name W y d f) ∙ same_is d.name x e) ∙ g in cc) in
          subst (λ (z : ClassFacts). EachOf (λ s. is_over y s ≡ true) (supers z)) is (over-named y d f l)
      go false e None q r k = absurd (let z : false ≡ true = k in cc)
      go false e (Some s) q r k = EachOf-map (over-super y d f l s q) (supers c) (r.0 x c g k)

  -- what a class of the chain names
  over-chain : (y : Bytes) → load_fault W y ≡ None → NamesAbove y
  over-chain = loads-induction W NamesAbove chain_step-names

  -- the interfaces that a superinterface names
  over-interfaces : (y x : Bytes) (c : ClassFacts) → find_class W x ≡ Some c → is_superinterface W y x ≡ true → EachOf (λ i. load_fault W i ≡ None) c.interfaces → EachOf (λ i. is_over y i ≡ true) c.interfaces
  over-interfaces y x c f h l = each_from (λ i. is_over y i ≡ true) c.interfaces one
    where
      one : (i : Bytes) → Contains c.interfaces i → is_over y i ≡ true
      one i k =
          let t = loads-found W i (each_in (λ j. load_fault W j ≡ None) c.interfaces i l k) in
          let there : is_some (find_class W i) ≡ true = ap is_some t.1 in
          or_right (in_chain W y i) (is_superinterface W y i)
          (superinterface-is W y i
          ∙ any_weaker (λ d. leads_to W d x) (λ d. leads_to W d i)
          (λ d p. any_weaker (λ j. names_in (with_interfaces W j) x) (λ j. names_in (with_interfaces W j) i) (λ j q. leads-on W j x i c q f k there) d.interfaces p)
          (descend W [] [] chain_step (size W) y) (sym (superinterface-is W y x) ∙ h))

  -- a superinterface is an interface
  over-interface : (y : Bytes) → load_fault W y ≡ None → (x : Bytes) (c : ClassFacts) → find_class W x ≡ Some c → is_superinterface W y x ≡ true → interface_flag c.flags ≡ true
  over-interface y l x c f h =
      let p = any_passes (λ d. same d.name x) (superinterfaces W y) h in
      let t = each_in (λ d. IsOf W d × (interface_flag d.flags ≡ true)) (superinterfaces W y) p.one
      (superinterfaces-each W (λ d. IsOf W d × (interface_flag d.flags ≡ true)) (λ z d e m i. (ap (find_class W) (find-name W z d e) ∙ e, i)) y l) p.is_in in
      let is : p.one ≡ c = (let q : Some p.one ≡ Some c = sym t.0 ∙ ap (find_class W) (same_is p.one.name x p.passes) ∙ f in cc) in
      subst (λ (d : ClassFacts). interface_flag d.flags ≡ true) is t.1

  -- ---- of a side

  module _ (side : IsSide W) where
    object_loads : load_fault W object_name ≡ None
    object_loads = bare_loads W object_name side.root.root (root_at W side) side.root.superclass side.root.interfaces

    pub rows-object : has_rows W object_name ≡ true
    rows-object = over-object object_loads object_name (over-itself object_name object_loads)

    over-root : (y : Bytes) → load_fault W y ≡ None → is_over y object_name ≡ true
    over-root y l = or_left (in_chain W y object_name) (is_superinterface W y object_name) (has_root W (side_valid W side) y l)

    -- the superclass of an interface is java/lang/Object
    object_named : (x : Bytes) (c : ClassFacts) → find_class W x ≡ Some c → interface_flag c.flags ≡ true → (s : Bytes) → c.superclass ≡ Some s → s ≡ object_name
    object_named x c f i s e =
        let v : superclass_is_valid c (Some s) ≡ true = subst (λ (o : Option Bytes). superclass_is_valid c o ≡ true) e (side_valid W side x c f).superclass in
        same_is s object_name (imply (interface_flag c.flags) (is_object_name s) (and_parts (is_valid_name s && not (is_object_name c.name)) (implies (interface_flag c.flags) (is_object_name s)) v).1 i)

    -- what a class above y names above itself is above y
    over-up : (y : Bytes) → load_fault W y ≡ None → (x : Bytes) (c : ClassFacts) → find_class W x ≡ Some c → load_fault W x ≡ None → is_over y x ≡ true → EachOf (λ s. is_over y s ≡ true) (supers c)
    over-up y m x c f l h = go (or_cases (in_chain W y x) (is_superinterface W y x) h)
      where
        by : interface_flag c.flags ≡ true → EachOf (λ i. is_over y i ≡ true) c.interfaces → (o : Option Bytes) → c.superclass ≡ o → EachOf (λ s. is_over y s ≡ true) (supers_of o c.interfaces)
        by i is None e = is
        by i is (Some s) e = (ap (is_over y) (object_named x c f i s e) ∙ over-root y m, is)

        go : (in_chain W y x ≡ true) ⊎ (is_superinterface W y x ≡ true) → EachOf (λ s. is_over y s ≡ true) (supers c)
        go (inl k) = over-chain y m x c f k
        go (inr k) = by (over-interface y m x c f k) (over-interfaces y x c f k (of_interfaces (λ s. load_fault W s ≡ None) c.superclass c.interfaces (loads-parts W x c f l).0)) c.superclass refl

    -- what is above a class above y is above y
    pub over-on : (y s : Bytes) → load_fault W y ≡ None → load_fault W s ≡ None → is_over y s ≡ true → (x : Bytes) → is_over s x ≡ true → is_over y x ≡ true
    over-on y s m l h x o = over_has (λ z. is_over y z ≡ true) (λ z c f k i. over-up y m z c f k i) s l h x o

    -- what is above y is y, or above a class that y names above itself
    pub over-down : (y : Bytes) (d : ClassFacts) → find_class W y ≡ Some d → load_fault W y ≡ None → (x : Bytes) → is_over y x ≡ true → (y ≡ x) ⊎ (list_any (λ s. is_over s x) (supers d) ≡ true)
    over-down y d f l x h = over_has (λ z. (y ≡ z) ⊎ (list_any (λ s. is_over s z) (supers d) ≡ true)) step y l (inl refl) x h
      where
        load : EachOf (λ s. load_fault W s ≡ None) (supers d)
        load = (loads-parts W y d f l).0

        named : (s z : Bytes) → Contains (supers d) s → is_over s z ≡ true → (y ≡ z) ⊎ (list_any (λ t. is_over t z) (supers d) ≡ true)
        named s z i o = inr (any_has (λ t. is_over t z) (supers d) s i o)

        step : (z : Bytes) (c : ClassFacts) → find_class W z ≡ Some c → load_fault W z ≡ None → (y ≡ z) ⊎ (list_any (λ s. is_over s z) (supers d) ≡ true) → EachOf (λ t. (y ≡ t) ⊎ (list_any (λ s. is_over s t) (supers d) ≡ true)) (supers c)
        step z c g k (inl e) =
            let is : d ≡ c = (let q : Some d ≡ Some c = sym f ∙ ap (find_class W) e ∙ g in cc) in
            subst (λ (b : ClassFacts). EachOf (λ t. (y ≡ t) ⊎ (list_any (λ s. is_over s t) (supers d) ≡ true)) (supers b)) is
            (each_from (λ t. (y ≡ t) ⊎ (list_any (λ s. is_over s t) (supers d) ≡ true)) (supers d)
            (λ t i. named t t i (over-itself t (each_in (λ s. load_fault W s ≡ None) (supers d) t load i))))
        step z c g k (inr a) =
            let q = any_passes (λ s. is_over s z) (supers d) a in
            EachOf-map (λ t o. named q.one t q.is_in o) (supers c)
            (over-up q.one (each_in (λ s. load_fault W s ≡ None) (supers d) q.one load q.is_in) z c g k q.passes)

    -- what a class that has rows names above itself has rows
    pub rows-up : (x : Bytes) (c : ClassFacts) → find_class W x ≡ Some c → load_fault W x ≡ None → has_rows W x ≡ true → EachOf (λ s. has_rows W s ≡ true) (supers c)
    rows-up x c f l h = let b = below x h in EachOf-map b.all (supers c) (over-up b.name b.loads x c f l b.over)

    -- the classes above a class that has rows have rows
    pub rows_above : (x : Bytes) → has_rows W x ≡ true → load_fault W x ≡ None → EachOf (λ c. has_rows W c.name ≡ true) (above W x)
    rows_above x h l = all_above (λ y. has_rows W y ≡ true) rows-up x l h

    -- ---- keys without a number

    module _ (k : Key) (none : list_any (declares_with_rows W k) (classes W) ≡ false) where
      undeclared : (x : Bytes) → has_rows W x ≡ true → load_fault W x ≡ None → EachOf (λ c. (is_some (own_field_of c k) || is_some (own_method_of c k)) ≡ false) (above W x)
      undeclared x h l =
          EachOf-both one (above W x) (rows_above x h l)
          (EachOf-append (Contains (classes W)) (chain W x) (superinterfaces W x) (chain-each W (Contains (classes W)) (λ y c f m. in_classes y c f) x l) (superinterfaces-each W (Contains (classes W)) (λ y c f m i. in_classes y c f) x l))
        where
          one : (c : ClassFacts) → has_rows W c.name ≡ true → Contains (classes W) c → (is_some (own_field_of c k) || is_some (own_method_of c k)) ≡ false
          one c r i = and_false (has_rows W c.name) (is_some (own_field_of c k) || is_some (own_method_of c k)) (not_any (declares_with_rows W k) (classes W) c none i) r

      -- a key that no class with rows declares: none above a class with rows declares a field of it
      pub unnumbered-field : (x : Bytes) → has_rows W x ≡ true → load_fault W x ≡ None → declare_field (above W x) k ≡ false
      unnumbered-field x h l =
          any_none (λ c. is_some (own_field_of c k)) (above W x) (EachOf-map (λ c e. neither_first (is_some (own_field_of c k)) (is_some (own_method_of c k)) e) (above W x) (undeclared x h l))

      -- nor a method
      pub unnumbered-method : (x : Bytes) → has_rows W x ≡ true → load_fault W x ≡ None → declare_method (above W x) k ≡ false
      unnumbered-method x h l =
          any_none (λ c. is_some (own_method_of c k)) (above W x) (EachOf-map (λ c e. neither_last (is_some (own_field_of c k)) (is_some (own_method_of c k)) e) (above W x) (undeclared x h l))
