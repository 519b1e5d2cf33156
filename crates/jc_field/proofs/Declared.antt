-- What a field lookup on a side finds is declared above the class.
--     interface_has      the lookup in an interface finds a field exactly where it or one that it leads to declares it
--     found_is_declared      a field that the lookup in a class finds is declared by the class or above it
use Rattle.std.proofs.Common.{◌≡◌, Bool, true, false, not, List, [], ◌∷◌, ◌++◌, refl, sym, ◌∙◌, ap, Option, Some, None, ◌||◌, ◌⊎◌, inl, inr}
use Rattle.std.specs.Prelude.{is_some}
use Rattle.std.specs.List.{list_any}
use Rattle.std.proofs.lemmas.Bool.{and_parts, or_cases, or_left, or_right}
use Rattle.std.proofs.Math.Bool.{or-false}
use Rattle.jc_facts.specs.declared.class_facts.ClassFacts.{ClassFacts}
use Rattle.jc_facts.specs.declared.class_facts.Member.{Member}
use Rattle.jc_facts.specs.declared.key.Key.{Key}
use Rattle.jc_facts.specs.Names.{Bytes, same, object_name}
use Rattle.jc_facts.specs.Flags.{interface_flag}
use Rattle.jc_facts.specs.Options.{or_else, first_some, and_then, some_and}
use Rattle.jc_facts.specs.world.World.{World, find_class, own_field_of, DeclaredMember, found_in}
use Rattle.jc_facts.specs.world.Search.{supers, supers_of}
use Rattle.jc_facts.specs.world.Hierarchy.{chain, of_super, each, with_interfaces, interfaces_of, superinterfaces}
use Rattle.jc_facts.specs.world.Loading.{load_fault, fault_of_interface}
use Rattle.jc_facts.specs.world.Lookup.{field_found, field_step}
use Rattle.jc_facts.specs.world.Assignment.{is_interface_of}
use Rattle.jc_worlds.specs.Hierarchy.{above}
use Rattle.jc_worlds.proofs.Above.{named_interface, named_interfaces}
use Rattle.jc_worlds.proofs.Loaded.{loads-induction, loads-parts, loads-found, unroll}
use Rattle.jc_worlds.proofs.Locality.{field_step-local, of_interfaces}
use Rattle.jc_worlds.proofs.Unrolled.{chain-unroll, with_interfaces-unroll, superinterfaces-unroll}
use Rattle.jc_lemmas.proofs.Lists.{any_left, any_right, any_cases}
use Rattle.jc_worlds.proofs.Bare.{bare_field}
use Rattle.jc_lemmas.proofs.Listed.{EachOf, EachOf-both, EachOf-map, list_any-same}
use Rattle.jc_worlds.proofs.ValidFacts.{superclass_fits, fit_of}
use Rattle.jc_facts.proofs.Same.{same_is}
use Rattle.jc_index.specs.Lookups.{declare_field}
use Rattle.jc_index.specs.Sides.{IsSide}
use Rattle.jc_field.specs.steps.Fields.{declares_field}
use Rattle.jc_facts.proofs.Hierarchy.{any_each}
use Rattle.jc_lemmas.proofs.Bools.{imply}
use Rattle.jc_index.proofs.Sides.{side_valid, root_at}

-- ---- sides

pub root_field : (W : World) → IsSide W → (k : Key) → field_found W object_name k ≡ None
root_field W s k = bare_field W object_name s.root.root k (root_at W s) s.root.superclass s.root.interfaces s.root.fields

-- ---- lookup by steps

pub stepped : (W : World) (k : Key) (y : Bytes) (c : ClassFacts) → find_class W y ≡ Some c → load_fault W y ≡ None → field_found W y k ≡ field_step k (λ z. field_found W z k) c
unfolding field_found
stepped W k y c f h = unroll W None None (field_step k) (field_step-local k) y c h f

some_or : {A : Type 0} (o p : Option A) → is_some (or_else o p) ≡ (is_some o || is_some p)
unfolding or_else
some_or None p = refl
some_or (Some x) p = refl

some_in : (c : ClassFacts) (o : Option Member) → is_some (found_in c o) ≡ is_some o
unfolding found_in
some_in c None = refl
some_in c (Some m) = refl

some_first : {A : Type 0} (f : Bytes → Option A) (xs : List Bytes) → is_some (first_some f xs) ≡ list_any (λ x. is_some (f x)) xs
unfolding first_some
some_first f [] = refl
some_first f (x ∷ xs) = some_or (f x) (first_some f xs) ∙ ap (λ b. is_some (f x) || b) (some_first f xs)

module _ (W : World) (side : IsSide W) (k : Key) where
  -- the superclass of an interface is java/lang/Object, which has no fields
  pub no_super : (y : Bytes) (c : ClassFacts) → find_class W y ≡ Some c → interface_flag c.flags ≡ true → and_then (λ z. field_found W z k) c.superclass ≡ None
  unfolding and_then
  no_super y c f i = go c.superclass (fit_of c (side_valid W side y c f)).superclass
    where
      go : (o : Option Bytes) → superclass_fits c o ≡ true → and_then (λ z. field_found W z k) o ≡ None
      go None v = refl
      go (Some s) v =
          let p = and_parts (not (same c.name object_name)) (not (interface_flag c.flags) || same s object_name) v in
          ap (λ z. field_found W z k) (same_is s object_name (imply (interface_flag c.flags) (same s object_name) p.1 i)) ∙ root_field W side k

  pub kind : (c : ClassFacts) (z : Bytes) → fault_of_interface W c z ≡ None → load_fault W z ≡ None → is_interface_of W z ≡ true
  kind c z f l = let t = loads-found W z l in ap (some_and (λ d. interface_flag d.flags)) t.1 ∙ named_interface W c t.0 z f t.1

  pub kinds : (y : Bytes) (c : ClassFacts) → find_class W y ≡ Some c → load_fault W y ≡ None → EachOf (λ z. is_interface_of W z ≡ true) c.interfaces
  kinds y c f h =
      let p = loads-parts W y c f h in
      EachOf-both (kind c) c.interfaces (named_interfaces W c p.1) (of_interfaces (λ s. load_fault W s ≡ None) c.superclass c.interfaces p.0)

  FromInterface : Bytes → Type 0
  FromInterface y = is_interface_of W y ≡ true → is_some (field_found W y k) ≡ list_any (declares_field k) (with_interfaces W y)

  below : (c : ClassFacts) → EachOf FromInterface c.interfaces → EachOf (λ z. is_interface_of W z ≡ true) c.interfaces
      → is_some (first_some (λ z. field_found W z k) c.interfaces) ≡ list_any (declares_field k) (each (with_interfaces W) c.interfaces)
  unfolding FromInterface
  below c r i =
      some_first (λ z. field_found W z k) c.interfaces
      ∙ list_any-same (λ z. is_some (field_found W z k)) (λ z. list_any (declares_field k) (with_interfaces W z)) c.interfaces (EachOf-both (λ z u v. u v) c.interfaces r i)
      ∙ sym (any_each (declares_field k) (with_interfaces W) c.interfaces)

  from_interface : (y : Bytes) → load_fault W y ≡ None → FromInterface y
  unfolding FromInterface field_step
  from_interface = loads-induction W FromInterface (λ y c f h r i.
      let j : interface_flag c.flags ≡ true = sym (ap (some_and (λ d. interface_flag d.flags)) f) ∙ i in
      let gives : Option DeclaredMember = first_some (λ z. field_found W z k) c.interfaces in
      ap is_some (stepped W k y c f h)
      ∙ some_or (found_in c (own_field_of c k)) (or_else (first_some (λ z. field_found W z k) c.interfaces) (and_then (λ z. field_found W z k) c.superclass))
      ∙ ap (λ b. b || is_some (or_else (first_some (λ z. field_found W z k) c.interfaces) (and_then (λ z. field_found W z k) c.superclass))) (some_in c (own_field_of c k))
      ∙ ap (λ b. declares_field k c || b)
      (some_or (first_some (λ z. field_found W z k) c.interfaces) (and_then (λ z. field_found W z k) c.superclass)
      ∙ ap (λ o. is_some (first_some (λ z. field_found W z k) c.interfaces) || is_some o) (no_super y c f j)
      ∙ or-false (is_some (first_some (λ z. field_found W z k) c.interfaces))
      ∙ below c (of_interfaces FromInterface c.superclass c.interfaces r) (kinds y c f h))
      ∙ sym (ap (list_any (declares_field k)) (with_interfaces-unroll W y c f h)))

  pub interface_has : (y : Bytes) → load_fault W y ≡ None → is_interface_of W y ≡ true → is_some (field_found W y k) ≡ list_any (declares_field k) (with_interfaces W y)
  unfolding FromInterface
  interface_has y h i = from_interface y h i

  -- what the interfaces of a class give
  pub below_has : (y : Bytes) (c : ClassFacts) → find_class W y ≡ Some c → load_fault W y ≡ None
      → is_some (first_some (λ z. field_found W z k) c.interfaces) ≡ list_any (declares_field k) (each (with_interfaces W) c.interfaces)
  below_has y c f h = below c (EachOf-map from_interface c.interfaces (of_interfaces (λ s. load_fault W s ≡ None) c.superclass c.interfaces (loads-parts W y c f h).0)) (kinds y c f h)

  IsAbove : Bytes → Type 0
  IsAbove y = is_some (field_found W y k) ≡ true → declare_field (above W y) k ≡ true

  from_class : (y : Bytes) → load_fault W y ≡ None → IsAbove y
  unfolding IsAbove and_then field_step superinterfaces interfaces_of
  from_class = loads-induction W IsAbove (λ y c f h r t.
      ap (list_any (declares_field k)) (ap (λ cs. cs ++ superinterfaces W y) (chain-unroll W y c f h) ∙ ap (λ cs. (c ∷ of_super (chain W) c.superclass) ++ cs) (superinterfaces-unroll W y c f h))
      ∙ step y c f h c.superclass refl r (or_cases (declares_field k c) (rest c)
      (sym (some_or (found_in c (own_field_of c k)) (or_else (first_some (λ z. field_found W z k) c.interfaces) (and_then (λ z. field_found W z k) c.superclass))
      ∙ ap (λ b. b || is_some (or_else (first_some (λ z. field_found W z k) c.interfaces) (and_then (λ z. field_found W z k) c.superclass))) (some_in c (own_field_of c k)))
      ∙ sym (ap is_some (stepped W k y c f h)) ∙ t)))
    where
      rest : ClassFacts → Bool
      rest c = is_some (or_else (first_some (λ z. field_found W z k) c.interfaces) (and_then (λ z. field_found W z k) c.superclass))

      whole : (c : ClassFacts) → Option Bytes → List ClassFacts
      whole c o = (c ∷ of_super (chain W) o) ++ (each (with_interfaces W) c.interfaces ++ interfaces_of W (of_super (chain W) o))

      by_super : (c : ClassFacts) (o : Option Bytes) → EachOf IsAbove (supers_of o c.interfaces) → is_some (and_then (λ z. field_found W z k) o) ≡ true → list_any (declares_field k) (whole c o) ≡ true
      by_super c None r t = absurd (let z : false ≡ true = t in cc)
      by_super c (Some s) r t = at (any_cases (declares_field k) (chain W s) (superinterfaces W s) (r.0 t))
        where
          at : (list_any (declares_field k) (chain W s) ≡ true) ⊎ (list_any (declares_field k) (superinterfaces W s) ≡ true) → list_any (declares_field k) (whole c (Some s)) ≡ true
          at (inl e) = any_left (declares_field k) (c ∷ chain W s) (each (with_interfaces W) c.interfaces ++ interfaces_of W (chain W s)) (or_right (declares_field k c) (list_any (declares_field k) (chain W s)) e)
          at (inr e) = any_right (declares_field k) (c ∷ chain W s) (each (with_interfaces W) c.interfaces ++ interfaces_of W (chain W s)) (any_right (declares_field k) (each (with_interfaces W) c.interfaces) (interfaces_of W (chain W s)) e)

      step : (y : Bytes) (c : ClassFacts) → find_class W y ≡ Some c → load_fault W y ≡ None → (o : Option Bytes) → c.superclass ≡ o → EachOf IsAbove (supers c) → (declares_field k c ≡ true) ⊎ (rest c ≡ true)
          → list_any (declares_field k) (whole c c.superclass) ≡ true
      step y c f h o q r (inl p) =
          any_left (declares_field k) (c ∷ of_super (chain W) c.superclass) (each (with_interfaces W) c.interfaces ++ interfaces_of W (of_super (chain W) c.superclass))
          (or_left (declares_field k c) (list_any (declares_field k) (of_super (chain W) c.superclass)) p)
      step y c f h o q r (inr p) =
          further (or_cases (is_some (first_some (λ z. field_found W z k) c.interfaces)) (is_some (and_then (λ z. field_found W z k) c.superclass))
          (sym (some_or (first_some (λ z. field_found W z k) c.interfaces) (and_then (λ z. field_found W z k) c.superclass)) ∙ p))
        where
          further : (is_some (first_some (λ z. field_found W z k) c.interfaces) ≡ true) ⊎ (is_some (and_then (λ z. field_found W z k) c.superclass) ≡ true) → list_any (declares_field k) (whole c c.superclass) ≡ true
          further (inl e) =
              any_right (declares_field k) (c ∷ of_super (chain W) c.superclass) (each (with_interfaces W) c.interfaces ++ interfaces_of W (of_super (chain W) c.superclass))
              (any_left (declares_field k) (each (with_interfaces W) c.interfaces) (interfaces_of W (of_super (chain W) c.superclass)) (sym (below_has y c f h) ∙ e))
          further (inr e) = by_super c c.superclass r e

-- a field that the lookup in a class finds is declared by the class or above it
pub found_is_declared : (W : World) → IsSide W → (x : Bytes) (k : Key) (m : DeclaredMember) → field_found W x k ≡ Some m → load_fault W x ≡ None → declare_field (above W x) k ≡ true
unfolding IsAbove
found_is_declared W s x k m e h = from_class W s k x h (ap is_some e)
