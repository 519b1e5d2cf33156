-- What a lookup of methods finds is declared by the class, by one of its superclasses or by one of its superinterfaces.
--     choice_is_declared, interface_choice_is_declared      a method that a reference to the class, to the interface finds
--     first_is_declared      the first of the chain
--     inherits_is_declared      a method that an interface inherits
use Rattle.std.proofs.Common.{◌≡◌, Bool, true, false, List, [], ◌∷◌, refl, sym, ◌∙◌, ap, Option, Some, None, is_some, ◌||◌, ◌⊎◌, inl, inr}
use Rattle.std.specs.List.{list_any, Contains}
use Rattle.std.proofs.lemmas.Bool.{or_cases, or_left, or_right}
use Rattle.jc_facts.specs.declared.class_facts.ClassFacts.{ClassFacts}
use Rattle.jc_facts.specs.declared.class_facts.Member.{Member}
use Rattle.jc_facts.specs.declared.key.Key.{Key}
use Rattle.jc_facts.specs.Names.{Bytes, same, object_name}
use Rattle.jc_facts.specs.Options.{or_else, and_then}
use Rattle.jc_facts.specs.world.World.{World, find_class, own_method_of, found_in, declared_method, DeclaredMember}
use Rattle.jc_facts.specs.world.Hierarchy.{chain, of_super, superinterfaces}
use Rattle.jc_facts.specs.world.Loading.{load_fault}
use Rattle.jc_facts.specs.world.Lookup.{first_declared, superinterface_choices, or_choices, method_choices, if_public_instance, public_method_of_object, interface_choices}
use Rattle.jc_facts.specs.file.Valid.{IsValidClass}
use Rattle.jc_lemmas.proofs.Listed.{none, cases, EachOf, any_has}
use Rattle.jc_worlds.specs.Hierarchy.{above}
use Rattle.jc_lemmas.proofs.Lists.{any_left, any_right}
use Rattle.jc_facts.proofs.World.{find-name, IsOf}
use Rattle.jc_facts.proofs.Same.{same_is}
use Rattle.jc_worlds.proofs.Above.{chain-each}
use Rattle.jc_facts.proofs.Options.{or_else-cases}
use Rattle.jc_worlds.proofs.Bare.{has_root}
use Rattle.jc_worlds.proofs.Unrolled.{chain-unroll}
use Rattle.jc_index.specs.Lookups.{declare_method}
use Rattle.jc_index.proofs.Choices.{IsDeclaredIn, in_declared, choices_declared}

module _ (k : Key) where
  -- the class declares a method of the key
  abbrev pub has : ClassFacts → Bool
  has c = is_some (own_method_of c k)

  own_has : (c : ClassFacts) (m : DeclaredMember) → declared_method k c ≡ Some m → is_some (own_method_of c k) ≡ true
  unfolding found_in
  own_has c m e = go (own_method_of c k) e
    where
      go : (o : Option Member) → found_in c o ≡ Some m → is_some o ≡ true
      go None e = absurd (let clash : None ≡ Some m = e in cc)
      go (Some n) e = refl

  first_has : (cs : List ClassFacts) (m : DeclaredMember) → first_declared k cs ≡ Some m → list_any (λ c. is_some (own_method_of c k)) cs ≡ true
  unfolding first_declared
  first_has [] m e = absurd (let clash : None ≡ Some m = e in cc)
  first_has (c ∷ cs) m e = go (or_else-cases (declared_method k c) (first_declared k cs) m e) (first_has cs m)
    where
      go : (declared_method k c ≡ Some m) ⊎ (first_declared k cs ≡ Some m) → (first_declared k cs ≡ Some m → list_any (λ c. is_some (own_method_of c k)) cs ≡ true) → (has c || list_any (λ c. is_some (own_method_of c k)) cs) ≡ true
      go (inl p) more = or_left (has c) (list_any (λ c. is_some (own_method_of c k)) cs) (own_has c m p)
      go (inr p) more = or_right (has c) (list_any (λ c. is_some (own_method_of c k)) cs) (more p)

  module _ (W : World) (x : Bytes) where
    from_chain : list_any (λ c. is_some (own_method_of c k)) (chain W x) ≡ true → declare_method (above W x) k ≡ true
    from_chain h = any_left (λ c. is_some (own_method_of c k)) (chain W x) (superinterfaces W x) h

    from_superinterfaces : list_any (λ c. is_some (own_method_of c k)) (superinterfaces W x) ≡ true → declare_method (above W x) k ≡ true
    from_superinterfaces h = any_right (λ c. is_some (own_method_of c k)) (chain W x) (superinterfaces W x) h

    superinterface_is : (m : DeclaredMember) → Contains (superinterface_choices W x k) m → declare_method (above W x) k ≡ true
    superinterface_is m h =
        let d : IsDeclaredIn k (superinterfaces W x) m = in_declared k (superinterfaces W x) m (choices_declared W x k m h) in
        from_superinterfaces (any_has (λ c. is_some (own_method_of c k)) (superinterfaces W x) d.class d.is_in (ap is_some d.own))

    pub first_is_declared : (m : DeclaredMember) → first_declared k (chain W x) ≡ Some m → declare_method (above W x) k ≡ true
    first_is_declared m e = from_chain (first_has (chain W x) m e)

    or_either : (o : Option DeclaredMember) (m : DeclaredMember) → (o ≡ Some m → declare_method (above W x) k ≡ true) → Contains (or_choices o (superinterface_choices W x k)) m → declare_method (above W x) k ≡ true
    unfolding or_choices
    or_either None m f h = superinterface_is m h
    or_either (Some n) m f h = go (cases n [] m h)
      where
        go : (n ≡ m) ⊎ Contains [] m → declare_method (above W x) k ≡ true
        go (inl i) = f (ap Some i)
        go (inr c) = absurd (none m c)

    pub choice_is_declared : (m : DeclaredMember) → Contains (method_choices W x k) m → declare_method (above W x) k ≡ true
    unfolding method_choices
    choice_is_declared m h = or_either (first_declared k (chain W x)) m (first_is_declared m) h

    module _ (loads : load_fault W x ≡ None) where
      own_is : (c : ClassFacts) → find_class W x ≡ Some c → is_some (own_method_of c k) ≡ true → declare_method (above W x) k ≡ true
      own_is c f h = from_chain (ap (list_any (λ c. is_some (own_method_of c k))) (chain-unroll W x c f loads) ∙ or_left (has c) (list_any (λ c. is_some (own_method_of c k)) (of_super (chain W) c.superclass)) h)

      module _ (valid : (y : Bytes) (c : ClassFacts) → find_class W y ≡ Some c → IsValidClass c) where
        -- java/lang/Object stands in the chain
        object_is : (c : ClassFacts) → find_class W object_name ≡ Some c → is_some (own_method_of c k) ≡ true → declare_method (above W x) k ≡ true
        object_is c f h = from_chain (by (chain W x) (chain-each W (IsOf W) (λ y d e l. ap (find_class W) (find-name W y d e) ∙ e) x loads) (has_root W valid x loads))
          where
            by : (cs : List ClassFacts) → EachOf (IsOf W) cs → list_any (λ e. same e.name object_name) cs ≡ true → list_any (λ c. is_some (own_method_of c k)) cs ≡ true
            by [] i e = absurd (let clash : false ≡ true = e in cc)
            by (b ∷ bs) i e = go (or_cases (same b.name object_name) (list_any (λ e. same e.name object_name) bs) e) (by bs i.1)
              where
                go : (same b.name object_name ≡ true) ⊎ (list_any (λ e. same e.name object_name) bs ≡ true) → (list_any (λ e. same e.name object_name) bs ≡ true → list_any (λ c. is_some (own_method_of c k)) bs ≡ true) → (has b || list_any (λ c. is_some (own_method_of c k)) bs) ≡ true
                go (inl p) more =
                    let z : Some b ≡ Some c = sym i.0 ∙ ap (find_class W) (same_is b.name object_name p) ∙ f in
                    let w : b ≡ c = cc in
                    or_left (has b) (list_any (λ c. is_some (own_method_of c k)) bs) (ap has w ∙ h)
                go (inr p) more = or_right (has b) (list_any (λ c. is_some (own_method_of c k)) bs) (more p)

        own_or_object : (m : DeclaredMember) → or_else (and_then (declared_method k) (find_class W x)) (public_method_of_object W k) ≡ Some m → declare_method (above W x) k ≡ true
        unfolding public_method_of_object and_then
        own_or_object m e = go (or_else-cases (and_then (declared_method k) (find_class W x)) (public_method_of_object W k) m e)
          where
            own : (o : Option ClassFacts) → find_class W x ≡ o → and_then (declared_method k) o ≡ Some m → declare_method (above W x) k ≡ true
            own None f q = absurd (let clash : None ≡ Some m = q in cc)
            own (Some c) f q = own_is c f (own_has c m q)

            at : (c : ClassFacts) → find_class W object_name ≡ Some c → (o : Option DeclaredMember) → declared_method k c ≡ o → and_then if_public_instance o ≡ Some m → declare_method (above W x) k ≡ true
            at c f None p q = absurd (let clash : None ≡ Some m = q in cc)
            at c f (Some n) p q = object_is c f (own_has c n p)

            object : (o : Option ClassFacts) → find_class W object_name ≡ o → and_then if_public_instance (and_then (declared_method k) o) ≡ Some m → declare_method (above W x) k ≡ true
            object None f q = absurd (let clash : None ≡ Some m = q in cc)
            object (Some c) f q = at c f (declared_method k c) refl q

            go : (and_then (declared_method k) (find_class W x) ≡ Some m) ⊎ (public_method_of_object W k ≡ Some m) → declare_method (above W x) k ≡ true
            go (inl p) = own (find_class W x) refl p
            go (inr p) = object (find_class W object_name) refl p

        pub interface_choice_is_declared : (m : DeclaredMember) → Contains (interface_choices W x k) m → declare_method (above W x) k ≡ true
        unfolding interface_choices
        interface_choice_is_declared m h = or_either (or_else (and_then (declared_method k) (find_class W x)) (public_method_of_object W k)) m (own_or_object m) h
