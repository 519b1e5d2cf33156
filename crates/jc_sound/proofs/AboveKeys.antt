-- What a lookup finds is declared by the class, by one of its superclasses or by one of its superinterfaces.
use Rattle.std.proofs.Common.{◌≡◌, Bool, true, false, not, cond, List, [], ◌∷◌, ◌++◌, refl, sym, ◌∙◌, ap, subst, Option, Some, None, is_some, ◌||◌, ◌⊎◌, inl, inr}
use Rattle.std.proofs.lemmas.Bool.{and_parts, or_cases, or_left, or_right}
use Rattle.std.specs.List.{list_any}
use Rattle.jc_facts.specs.declared.class_facts.ClassFacts.{ClassFacts}
use Rattle.jc_facts.specs.declared.class_facts.Member.{Member}
use Rattle.jc_facts.specs.declared.key.Key.{Key}
use Rattle.jc_facts.specs.Names.{Bytes, same, object_name}
use Rattle.jc_facts.specs.Flags.{interface_flag}
use Rattle.jc_facts.specs.Options.{or_else, first_some, and_then, some_and}
use Rattle.jc_facts.specs.world.World.{World, find_class, DeclaredMember, own_field_of, own_method_of, found_in, declared_method}
use Rattle.jc_facts.specs.world.Search.{supers, supers_of}
use Rattle.jc_facts.specs.world.Hierarchy.{chain, of_super, each, with_interfaces, interfaces_of, superinterfaces}
use Rattle.jc_facts.specs.world.Loading.{load_fault, fault_of_interface, fault_of_itself}
use Rattle.jc_facts.specs.world.Lookup.{field_found, field_step, first_declared, superinterface_choices, or_choices, method_choices, if_public_instance, public_method_of_object, interface_choices}
use Rattle.jc_facts.specs.world.Assignment.{is_interface_of}
use Rattle.jc_facts.specs.client.Acts.{Form, FieldForm, MethodForm, InterfaceForm}
use Rattle.jc_facts.specs.file.Valid.{IsValidClass}
use Rattle.jc_facts.specs.world.Inheritance.{offers, is_inheritable}
use Rattle.jc_sound.specs.Findings.{declares_key}
use Rattle.jc_worlds.specs.Hierarchy.{above}
use Rattle.jc_lemmas.proofs.Listed.{EachOf, EachOf-both, EachOf-map}
use Rattle.jc_facts.proofs.World.{find-name, IsOf}
use Rattle.jc_facts.proofs.Same.{same_is}
use Rattle.jc_worlds.proofs.Loaded.{loads-parts, loads-induction, loads-found, unroll}
use Rattle.jc_worlds.proofs.Locality.{field_step-local, of_interfaces}
use Rattle.jc_worlds.proofs.ValidFacts.{superclass_fits, fit_of}
use Rattle.jc_worlds.proofs.Above.{named_interface, named_interfaces, chain-each}
use Rattle.jc_facts.proofs.Options.{or_else-cases}
use Rattle.jc_worlds.proofs.Bare.{has_root}
use Rattle.jc_worlds.proofs.Unrolled.{chain-unroll, with_interfaces-unroll, superinterfaces-unroll}
use Rattle.jc_lemmas.proofs.Lists.{any_left, any_right, any_cases, IsCons, any_weaker}
use Rattle.jc_sound.proofs.Looked.{looked, head_of}
use Rattle.jc_worlds.proofs.Offers.{choices-offers}
use Rattle.jc_lemmas.proofs.Bools.{imply}

module _ (k : Key) where
  field_declares : (c : ClassFacts) (m : DeclaredMember) → found_in c (own_field_of c k) ≡ Some m → declares_key k c ≡ true
  unfolding found_in
  field_declares c m e = go (own_field_of c k) refl e
    where
      go : (o : Option Member) → own_field_of c k ≡ o → found_in c o ≡ Some m → (is_some (own_field_of c k) || is_some (own_method_of c k)) ≡ true
      go None q e = absurd (cc)
      go (Some n) q e = or_left (is_some (own_field_of c k)) (is_some (own_method_of c k)) (ap is_some q)

  pub method_declares : (c : ClassFacts) (m : Member) → own_method_of c k ≡ Some m → declares_key k c ≡ true
  method_declares c m q = or_right (is_some (own_field_of c k)) (is_some (own_method_of c k)) (ap is_some q)

  found_declares : (c : ClassFacts) (m : DeclaredMember) → declared_method k c ≡ Some m → declares_key k c ≡ true
  unfolding found_in
  found_declares c m e = go (own_method_of c k) refl e
    where
      go : (o : Option Member) → own_method_of c k ≡ o → found_in c o ≡ Some m → declares_key k c ≡ true
      go None q e = absurd (cc)
      go (Some n) q e = method_declares c n q

  -- the key by a test on the class's own method
  pub test_declares : (p : Member → Bool) (c : ClassFacts) → some_and p (own_method_of c k) ≡ true → declares_key k c ≡ true
  test_declares p c h = go (own_method_of c k) refl h
    where
      go : (o : Option Member) → own_method_of c k ≡ o → some_and p o ≡ true → declares_key k c ≡ true
      go None q e = absurd (cc)
      go (Some n) q e = method_declares c n q

  first_declares : (cs : List ClassFacts) (m : DeclaredMember) → first_declared k cs ≡ Some m → list_any (declares_key k) cs ≡ true
  unfolding first_declared
  first_declares [] m e = absurd (cc)
  first_declares (c ∷ cs) m e = go (or_else-cases (found_in c (own_method_of c k)) (first_declared k cs) m e) (first_declares cs m)
    where
      go : (found_in c (own_method_of c k) ≡ Some m) ⊎ (first_declared k cs ≡ Some m) → (first_declared k cs ≡ Some m → list_any (declares_key k) cs ≡ true) → (declares_key k c || list_any (declares_key k) cs) ≡ true
      go (inl p) r = or_left (declares_key k c) (list_any (declares_key k) cs) (found_declares c m p)
      go (inr p) r = or_right (declares_key k c) (list_any (declares_key k) cs) (r p)

  module _ (W : World) (valid : (x : Bytes) (c : ClassFacts) → find_class W x ≡ Some c → IsValidClass c) (root : field_found W object_name k ≡ None) where
    -- ---- fields

    FromInterface : Bytes → Type 0
    FromInterface y = is_interface_of W y ≡ true → (m : DeclaredMember) → field_found W y k ≡ Some m → list_any (declares_key k) (with_interfaces W y) ≡ true

    FromClass : Bytes → Type 0
    FromClass y = (m : DeclaredMember) → field_found W y k ≡ Some m → list_any (declares_key k) (above W y) ≡ true

    kind : (c : ClassFacts) (z : Bytes) → fault_of_interface W c z ≡ None → load_fault W z ≡ None → is_interface_of W z ≡ true
    kind c z f l = let t = loads-found W z l in let q : interface_flag t.0.flags ≡ true = named_interface W c t.0 z f t.1 in rw t.1 q

    kinds : (c : ClassFacts) → EachOf (λ s. load_fault W s ≡ None) (supers c) → fault_of_itself W c ≡ None → EachOf (λ z. is_interface_of W z ≡ true) c.interfaces
    kinds c l o = EachOf-both (kind c) c.interfaces (named_interfaces W c o) (of_interfaces (λ s. load_fault W s ≡ None) c.superclass c.interfaces l)

    first_above : (m : DeclaredMember) (xs : List Bytes) → EachOf FromInterface xs → EachOf (λ z. is_interface_of W z ≡ true) xs → first_some (λ z. field_found W z k) xs ≡ Some m → list_any (declares_key k) (each (with_interfaces W) xs) ≡ true
    unfolding first_some each FromInterface
    first_above m [] h i e = absurd (cc)
    first_above m (z ∷ zs) h i e = go (or_else-cases (field_found W z k) (first_some (λ z. field_found W z k) zs) m e) (first_above m zs h.1 i.1)
      where
        go : (field_found W z k ≡ Some m) ⊎ (first_some (λ z. field_found W z k) zs ≡ Some m) → (first_some (λ z. field_found W z k) zs ≡ Some m → list_any (declares_key k) (each (with_interfaces W) zs) ≡ true)
            → list_any (declares_key k) (with_interfaces W z ++ each (with_interfaces W) zs) ≡ true
        go (inl p) r = any_left (declares_key k) (with_interfaces W z) (each (with_interfaces W) zs) (h.0 i.0 m p)
        go (inr p) r = any_right (declares_key k) (with_interfaces W z) (each (with_interfaces W) zs) (r p)

    never_super : (c : ClassFacts) (o : Option Bytes) → superclass_fits c o ≡ true → interface_flag c.flags ≡ true → (m : DeclaredMember) → and_then (λ z. field_found W z k) o ≡ Some m → ⊥
    unfolding and_then
    never_super c None v i m e = cc
    never_super c (Some s) v i m e =
        let p = and_parts (not (same c.name object_name)) (not (interface_flag c.flags) || same s object_name) v in
        let q : s ≡ object_name = same_is s object_name (imply (interface_flag c.flags) (same s object_name) p.1 i) in
        let n : field_found W s k ≡ None = ap (λ z. field_found W z k) q ∙ root in
        let w : field_found W s k ≡ Some m = e in cc

    field_cases : (c : ClassFacts) (m : DeclaredMember) → field_step k (λ y. field_found W y k) c ≡ Some m
        → (found_in c (own_field_of c k) ≡ Some m) ⊎ ((first_some (λ y. field_found W y k) c.interfaces ≡ Some m) ⊎ (and_then (λ y. field_found W y k) c.superclass ≡ Some m))
    unfolding field_step
    field_cases c m e = go (or_else-cases (found_in c (own_field_of c k)) (or_else (first_some (λ y. field_found W y k) c.interfaces) (and_then (λ y. field_found W y k) c.superclass)) m e)
      where
        go : (found_in c (own_field_of c k) ≡ Some m) ⊎ (or_else (first_some (λ y. field_found W y k) c.interfaces) (and_then (λ y. field_found W y k) c.superclass) ≡ Some m)
            → (found_in c (own_field_of c k) ≡ Some m) ⊎ ((first_some (λ y. field_found W y k) c.interfaces ≡ Some m) ⊎ (and_then (λ y. field_found W y k) c.superclass ≡ Some m))
        go (inl p) = inl p
        go (inr p) = inr (or_else-cases (first_some (λ y. field_found W y k) c.interfaces) (and_then (λ y. field_found W y k) c.superclass) m p)

    stepped : (y : Bytes) (c : ClassFacts) → find_class W y ≡ Some c → load_fault W y ≡ None → field_found W y k ≡ field_step k (λ z. field_found W z k) c
    unfolding field_found
    stepped y c f h = unroll W None None (field_step k) (field_step-local k) y c h f

    from_interface : (y : Bytes) → load_fault W y ≡ None → FromInterface y
    unfolding FromInterface
    from_interface = loads-induction W FromInterface (λ y c f h r i m e.
        let p = loads-parts W y c f h in
        let j : interface_flag c.flags ≡ true = rw f at i in
        ap (list_any (declares_key k)) (with_interfaces-unroll W y c f h)
        ∙ step c (fit_of c (valid y c f)).superclass j m (of_interfaces FromInterface c.superclass c.interfaces r) (kinds c p.0 p.1) (field_cases c m (sym (stepped y c f h) ∙ e)))
      where
        step : (c : ClassFacts) → superclass_fits c c.superclass ≡ true → interface_flag c.flags ≡ true → (m : DeclaredMember) → EachOf FromInterface c.interfaces → EachOf (λ z. is_interface_of W z ≡ true) c.interfaces
            → (found_in c (own_field_of c k) ≡ Some m) ⊎ ((first_some (λ y. field_found W y k) c.interfaces ≡ Some m) ⊎ (and_then (λ y. field_found W y k) c.superclass ≡ Some m))
            → (declares_key k c || list_any (declares_key k) (each (with_interfaces W) c.interfaces)) ≡ true
        step c v j m r is (inl p) = or_left (declares_key k c) (list_any (declares_key k) (each (with_interfaces W) c.interfaces)) (field_declares c m p)
        step c v j m r is (inr (inl p)) = or_right (declares_key k c) (list_any (declares_key k) (each (with_interfaces W) c.interfaces)) (first_above m c.interfaces r is p)
        step c v j m r is (inr (inr p)) = absurd (never_super c c.superclass v j m p)

    pub from_class : (y : Bytes) → load_fault W y ≡ None → (m : DeclaredMember) → field_found W y k ≡ Some m → list_any (declares_key k) (above W y) ≡ true
    unfolding FromClass and_then interfaces_of superinterfaces
    from_class = loads-induction W FromClass (λ y c f h r m e.
        let p = loads-parts W y c f h in
        ap (list_any (declares_key k)) (ap (λ cs. cs ++ superinterfaces W y) (chain-unroll W y c f h) ∙ ap (λ cs. (c ∷ of_super (chain W) c.superclass) ++ cs) (superinterfaces-unroll W y c f h))
        ∙ step c m c.superclass refl r (of_interfaces (λ s. load_fault W s ≡ None) c.superclass c.interfaces p.0) (kinds c p.0 p.1) (field_cases c m (sym (stepped y c f h) ∙ e)))
      where
        both : (c : ClassFacts) (o : Option Bytes) → List ClassFacts
        both c o = (c ∷ of_super (chain W) o) ++ (each (with_interfaces W) c.interfaces ++ interfaces_of W (of_super (chain W) o))

        step : (c : ClassFacts) (m : DeclaredMember) (o : Option Bytes) → c.superclass ≡ o → EachOf FromClass (supers_of o c.interfaces) → EachOf (λ s. load_fault W s ≡ None) c.interfaces → EachOf (λ z. is_interface_of W z ≡ true) c.interfaces
            → (found_in c (own_field_of c k) ≡ Some m) ⊎ ((first_some (λ y. field_found W y k) c.interfaces ≡ Some m) ⊎ (and_then (λ y. field_found W y k) c.superclass ≡ Some m))
            → list_any (declares_key k) ((c ∷ of_super (chain W) c.superclass) ++ (each (with_interfaces W) c.interfaces ++ interfaces_of W (of_super (chain W) c.superclass))) ≡ true
        step c m o q r l is (inl p) = any_left (declares_key k) (c ∷ of_super (chain W) c.superclass) (each (with_interfaces W) c.interfaces ++ interfaces_of W (of_super (chain W) c.superclass)) (or_left (declares_key k c) (list_any (declares_key k) (of_super (chain W) c.superclass)) (field_declares c m p))
        step c m o q r l is (inr (inl p)) = any_right (declares_key k) (c ∷ of_super (chain W) c.superclass) (each (with_interfaces W) c.interfaces ++ interfaces_of W (of_super (chain W) c.superclass))
            (any_left (declares_key k) (each (with_interfaces W) c.interfaces) (interfaces_of W (of_super (chain W) c.superclass)) (first_above m c.interfaces (EachOf-map from_interface c.interfaces l) is p))
        step c m None q r l is (inr (inr p)) = absurd (let z : None ≡ Some m = sym (ap (and_then (λ y. field_found W y k)) q) ∙ p in cc)
        step c m (Some s) q r l is (inr (inr p)) =
            let w : field_found W s k ≡ Some m = sym (ap (and_then (λ y. field_found W y k)) q) ∙ p in
            subst (λ o. list_any (declares_key k) (both c o) ≡ true) (sym q) (at (any_cases (declares_key k) (chain W s) (superinterfaces W s) (r.0 m w)))
          where
            at : (list_any (declares_key k) (chain W s) ≡ true) ⊎ (list_any (declares_key k) (superinterfaces W s) ≡ true) → list_any (declares_key k) (both c (Some s)) ≡ true
            at (inl e) = any_left (declares_key k) (c ∷ chain W s) (each (with_interfaces W) c.interfaces ++ interfaces_of W (chain W s)) (or_right (declares_key k c) (list_any (declares_key k) (chain W s)) e)
            at (inr e) = any_right (declares_key k) (c ∷ chain W s) (each (with_interfaces W) c.interfaces ++ interfaces_of W (chain W s)) (any_right (declares_key k) (each (with_interfaces W) c.interfaces) (interfaces_of W (chain W s)) e)

    -- ---- methods

    from_superinterfaces : (y : Bytes) (m : DeclaredMember) → head_of (superinterface_choices W y k) ≡ Some m → list_any (declares_key k) (superinterfaces W y) ≡ true
    unfolding head_of
    from_superinterfaces y m e = any_weaker (offers k) (declares_key k) (test_declares is_inheritable) (superinterfaces W y) (choices-offers W y k (cons (superinterface_choices W y k) e))
      where
        cons : (ms : List DeclaredMember) → head_of ms ≡ Some m → IsCons ms
        cons [] e = absurd (cc)
        cons (n ∷ ns) e = record { head = n; tail = ns; is = refl }

    or_head : (y : Bytes) (o : Option DeclaredMember) (m : DeclaredMember) → (o ≡ Some m → list_any (declares_key k) (chain W y) ≡ true) → head_of (or_choices o (superinterface_choices W y k)) ≡ Some m → list_any (declares_key k) (above W y) ≡ true
    unfolding or_choices head_of
    or_head y None m f e = any_right (declares_key k) (chain W y) (superinterfaces W y) (from_superinterfaces y m e)
    or_head y (Some n) m f e = any_left (declares_key k) (chain W y) (superinterfaces W y) (f e)

    -- java/lang/Object stands in the chain
    from_object : (y : Bytes) → load_fault W y ≡ None → (c : ClassFacts) → find_class W object_name ≡ Some c → declares_key k c ≡ true → list_any (declares_key k) (chain W y) ≡ true
    from_object y h c f d = by (chain W y) (chain-each W (IsOf W) (λ z e g l. ap (find_class W) (find-name W z e g) ∙ g) y h) (has_root W valid y h)
      where
        by : (cs : List ClassFacts) → EachOf (IsOf W) cs → list_any (λ e. same e.name object_name) cs ≡ true → list_any (declares_key k) cs ≡ true
        by [] i e = absurd (cc)
        by (b ∷ bs) i e = go (or_cases (same b.name object_name) (list_any (λ e. same e.name object_name) bs) e) (by bs i.1)
          where
            go : (same b.name object_name ≡ true) ⊎ (list_any (λ e. same e.name object_name) bs ≡ true) → (list_any (λ e. same e.name object_name) bs ≡ true → list_any (declares_key k) bs ≡ true) → (declares_key k b || list_any (declares_key k) bs) ≡ true
            go (inl p) r =
                let z : Some b ≡ Some c = sym i.0 ∙ ap (find_class W) (same_is b.name object_name p) ∙ f in
                let w : b ≡ c = cc in
                or_left (declares_key k b) (list_any (declares_key k) bs) (subst (λ v. declares_key k v ≡ true) (sym w) d)
            go (inr p) r = or_right (declares_key k b) (list_any (declares_key k) bs) (r p)

    own_or_object : (y : Bytes) → load_fault W y ≡ None → (m : DeclaredMember) → or_else (and_then (declared_method k) (find_class W y)) (public_method_of_object W k) ≡ Some m → list_any (declares_key k) (chain W y) ≡ true
    unfolding public_method_of_object and_then if_public_instance
    own_or_object y h m e = go (or_else-cases (and_then (declared_method k) (find_class W y)) (public_method_of_object W k) m e)
      where
        t : (c : ClassFacts) × (find_class W y ≡ Some c)
        t = loads-found W y h

        object : (o : Option ClassFacts) → find_class W object_name ≡ o → and_then if_public_instance (and_then (declared_method k) o) ≡ Some m → list_any (declares_key k) (chain W y) ≡ true
        object None f q = absurd (cc)
        object (Some c) f q = at (declared_method k c) refl q
          where
            at : (o : Option DeclaredMember) → declared_method k c ≡ o → and_then if_public_instance o ≡ Some m → list_any (declares_key k) (chain W y) ≡ true
            at None w q = absurd (cc)
            at (Some n) w q = from_object y h c f (found_declares c n w)

        go : (and_then (declared_method k) (find_class W y) ≡ Some m) ⊎ (public_method_of_object W k ≡ Some m) → list_any (declares_key k) (chain W y) ≡ true
        go (inl p) = ap (list_any (declares_key k)) (chain-unroll W y t.0 t.1 h) ∙ or_left (declares_key k t.0) (list_any (declares_key k) (of_super (chain W) t.0.superclass)) (found_declares t.0 m (sym (ap (and_then (declared_method k)) t.1) ∙ p))
        go (inr p) = object (find_class W object_name) refl p

    -- what any form of reference finds
    pub looked_above : (f : Form) (y : Bytes) → load_fault W y ≡ None → (m : DeclaredMember) → looked W f y k ≡ Some m → list_any (declares_key k) (above W y) ≡ true
    unfolding looked method_choices interface_choices
    looked_above FieldForm y h m e = from_class y h m e
    looked_above MethodForm y h m e = go (is_interface_of W y) e
      where
        go : (b : Bool) → cond b None (head_of (or_choices (first_declared k (chain W y)) (superinterface_choices W y k))) ≡ Some m → list_any (declares_key k) (above W y) ≡ true
        go true q = absurd (cc)
        go false q = or_head y (first_declared k (chain W y)) m (first_declares (chain W y) m) q
    looked_above InterfaceForm y h m e = go (is_interface_of W y) e
      where
        go : (b : Bool) → cond b (head_of (or_choices (or_else (and_then (declared_method k) (find_class W y)) (public_method_of_object W k)) (superinterface_choices W y k))) None ≡ Some m → list_any (declares_key k) (above W y) ≡ true
        go false q = absurd (cc)
        go true q = or_head y (or_else (and_then (declared_method k) (find_class W y)) (public_method_of_object W k)) m (own_or_object y h m) q

    pub chain_above : (y : Bytes) (m : DeclaredMember) → first_declared k (chain W y) ≡ Some m → list_any (declares_key k) (above W y) ≡ true
    chain_above y m e = any_left (declares_key k) (chain W y) (superinterfaces W y) (first_declares (chain W y) m e)
