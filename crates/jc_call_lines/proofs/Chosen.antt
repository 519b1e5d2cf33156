-- What a reference may find is the one method that stands before the superinterfaces, or what these give.
use Rattle.std.proofs.Common.{◌≡◌, ◌<◌, ℕ, Bool, true, false, not, ◌||◌, ◌&&◌, ◌==◌, List, [], ◌∷◌, refl, sym, ◌∙◌, ap, subst, Option, Some, None, ◌⊎◌, inl, inr}
use Rattle.std.specs.List.{list_all, Contains}
use Rattle.std.proofs.lemmas.Bool.{or_cases, eqb-true, not-true}
use Rattle.jc_calls.specs.Handles.{is_referable}
use Rattle.jc_facts.specs.declared.class_facts.ClassFacts.{ClassFacts}
use Rattle.jc_facts.specs.declared.key.Key.{Key}
use Rattle.jc_facts.specs.Flags.{interface_flag}
use Rattle.jc_facts.specs.Names.{Bytes, same, object_name}
use Rattle.jc_facts.specs.Options.{or_else, and_then, some_and}
use Rattle.jc_facts.specs.world.Assignment.{is_interface_of}
use Rattle.jc_facts.specs.world.Hierarchy.{chain, of_super, is_superinterface}
use Rattle.jc_facts.specs.world.Loading.{load_fault}
use Rattle.jc_facts.specs.world.Lookup.{first_declared, or_choices, method_choices, interface_choices, superinterface_choices, public_method_of_object, are_none}
use Rattle.jc_facts.specs.world.Search.{supers, supers_of}
use Rattle.jc_facts.specs.world.World.{World, size, find_class, own_method_of, declared_method, found_in, DeclaredMember}
use Rattle.jc_facts.proofs.Options.{or_else-cases}
use Rattle.jc_facts.proofs.Same.{same_itself}
use Rattle.jc_facts.proofs.World.{IsOf, find-name}
use Rattle.jc_index.specs.Ids.{name_at}
use Rattle.jc_index.specs.Lookups.{IsFound, IsChoice}
use Rattle.jc_index.specs.Sides.{IsSide}
use Rattle.jc_index.specs.declared.ids.Found.{Found}
use Rattle.jc_index.proofs.Aboves.{same_number}
use Rattle.jc_index.proofs.Choices.{IsOne, one_of, choices_declared}
use Rattle.jc_index.proofs.Sides.{root_at}
use Rattle.jc_index.proofs.Strictly.{above_good, no_circle}
use Rattle.jc_lemmas.proofs.Bools.{contradicts, neither_first, neither_last}
use Rattle.jc_lemmas.proofs.Listed.{EachOf, each_from, each_in, here, there, none}
use Rattle.jc_rows.specs.Rows.{choices_by, lookup_choices}
use Rattle.jc_rows.specs.steps.Fronts.{front_by, front_method}
use Rattle.jc_rows.proofs.MethodsAbove.{owner_of, the_one, super_is_class, of_object}
use Rattle.jc_worlds.proofs.Above.{chain-each}
use Rattle.jc_worlds.proofs.Loaded.{loads-parts, loads-induction}
use Rattle.jc_worlds.proofs.Unrolled.{chain-unroll}
use Rattle.jc_call_lines.specs.steps.Openly.{open_class, is_owner_open, owners_open, is_said_open, choices_open, finds_referable, are_flags_fit}
use Rattle.jc_call_lines.proofs.OpenAbove.{all_each, not_all, only_last}

-- ---- the front

pub front_or : (W : World) (x : Bytes) (k : Key) → lookup_choices W x k ≡ or_choices (front_method W x k) (superinterface_choices W x k)
unfolding method_choices interface_choices
front_or W x k = go (is_interface_of W x)
  where
    go : (b : Bool) → choices_by b W x k ≡ or_choices (front_by b W x k) (superinterface_choices W x k)
    go true = refl
    go false = refl

-- the class of the list that declares what is found in it
pub record IsFirst (cs : List ClassFacts) (m : DeclaredMember) : Type 0 where
  pub class : ClassFacts
  pub is_in : Contains cs class
  pub owner : m.owner ≡ class.name

pub first_in : (k : Key) (cs : List ClassFacts) (m : DeclaredMember) → first_declared k cs ≡ Some m → IsFirst cs m
unfolding first_declared
first_in k [] m e = absurd (let clash : None ≡ Some m = e in cc)
first_in k (c ∷ cs) m e = go (or_else-cases (found_in c (own_method_of c k)) (first_declared k cs) m e) (first_in k cs m)
  where
    go : (found_in c (own_method_of c k) ≡ Some m) ⊎ (first_declared k cs ≡ Some m) → (first_declared k cs ≡ Some m → IsFirst cs m) → IsFirst (c ∷ cs) m
    go (inl p) more = record { «class» = c; is_in = here c cs; owner = owner_of c (own_method_of c k) m p }
    go (inr p) more = let r : IsFirst cs m = more p in record { «class» = r.class; is_in = there r.class c cs r.is_in; owner = r.owner }

-- what an interface declares itself, or java/lang/Object
pub own_or_root : (W : World) (x : Bytes) (k : Key) (m : DeclaredMember) → or_else (and_then (declared_method k) (find_class W x)) (public_method_of_object W k) ≡ Some m → (m.owner ≡ x) ⊎ (m.owner ≡ object_name)
unfolding and_then
own_or_root W x k m e = go (or_else-cases (and_then (declared_method k) (find_class W x)) (public_method_of_object W k) m e)
  where
    own : (o : Option ClassFacts) → find_class W x ≡ o → and_then (declared_method k) o ≡ Some m → m.owner ≡ x
    own None f q = absurd (let clash : None ≡ Some m = q in cc)
    own (Some c) f q = owner_of c (own_method_of c k) m q ∙ find-name W x c f

    go : (and_then (declared_method k) (find_class W x) ≡ Some m) ⊎ (public_method_of_object W k ≡ Some m) → (m.owner ≡ x) ⊎ (m.owner ≡ object_name)
    go (inl p) = inl (own (find_class W x) refl p)
    go (inr p) = inr (of_object W k m p)

module _ (W : World) where
  -- the classes of a chain
  abbrev pub IsClass : ClassFacts → Type 0
  IsClass c = IsOf W c × (interface_flag c.flags ≡ false)

  abbrev ChainOf : Bytes → Type 0
  ChainOf x = is_interface_of W x ≡ false → EachOf (λ c. interface_flag c.flags ≡ false) (chain W x)

  no_interface : (x : Bytes) → load_fault W x ≡ None → ChainOf x
  no_interface = loads-induction W ChainOf step
    where
      step : (x : Bytes) (c : ClassFacts) → find_class W x ≡ Some c → load_fault W x ≡ None → EachOf ChainOf (supers c) → ChainOf x
      step x c f h r n =
          subst (EachOf (λ (d : ClassFacts). interface_flag d.flags ≡ false)) (sym (chain-unroll W x c f h))
          (sym (ap (some_and (λ (d : ClassFacts). interface_flag d.flags)) f) ∙ n, up c.superclass refl r (loads-parts W x c f h).0)
        where
          up : (s : Option Bytes) → c.superclass ≡ s → EachOf ChainOf (supers_of s c.interfaces) → EachOf (λ y. load_fault W y ≡ None) (supers_of s c.interfaces) → EachOf (λ (d : ClassFacts). interface_flag d.flags ≡ false) (of_super (chain W) s)
          up None e q l = tt
          up (Some s) e q l = q.0 (super_is_class W x s c f h e l.0)

  -- the record of a class of the chain
  pub chain_of : (x : Bytes) → load_fault W x ≡ None → EachOf (IsOf W) (chain W x)
  chain_of x h = chain-each W (IsOf W) (λ y c e l. ap (find_class W) (find-name W y c e) ∙ e) x h

  module _ (side : IsSide W) (x : Bytes) (loads : load_fault W x ≡ None) (k : Key) where
    root_kind : is_interface_of W object_name ≡ false
    root_kind = ap (some_and (λ (d : ClassFacts). interface_flag d.flags)) (root_at W side) ∙ side.root.«class»

    -- what stands in front is of the class itself, or of no interface
    front_kind : (m : DeclaredMember) → front_method W x k ≡ Some m → (m.owner ≡ x) ⊎ (is_interface_of W m.owner ≡ false)
    front_kind m e = go (is_interface_of W x) refl e
      where
        of_root : (m.owner ≡ x) ⊎ (m.owner ≡ object_name) → (m.owner ≡ x) ⊎ (is_interface_of W m.owner ≡ false)
        of_root (inl p) = inl p
        of_root (inr p) = inr (ap (is_interface_of W) p ∙ root_kind)

        go : (b : Bool) → is_interface_of W x ≡ b → front_by b W x k ≡ Some m → (m.owner ≡ x) ⊎ (is_interface_of W m.owner ≡ false)
        go true i q = of_root (own_or_root W x k m q)
        go false i q =
            let f : IsFirst (chain W x) m = first_in k (chain W x) m q in
            inr (ap (is_interface_of W) f.owner
            ∙ ap (some_and (λ (d : ClassFacts). interface_flag d.flags)) (each_in (IsOf W) (chain W x) f.class (chain_of x loads) f.is_in)
            ∙ each_in (λ (d : ClassFacts). interface_flag d.flags ≡ false) (chain W x) f.class (no_interface x loads i) f.is_in)

    module _ (f : Found) (c : IsChoice W (Some f) (lookup_choices W x k)) where
      -- its class is one that clients can't name
      pub one_shut : open_class W (name_at W f.owner) ≡ false → false ≡ owners_open W x k
      one_shut e = sym (not_all (is_owner_open W) (lookup_choices W x k) c.0 c.1 (ap (open_class W) (sym c.2.owner) ∙ e))

      -- it isn't one of a superinterface
      below : (name_at W f.owner ≡ x) ⊎ (is_interface_of W (name_at W f.owner) ≡ false) → (m : DeclaredMember) → Contains (superinterface_choices W x k) m → IsFound W f m → ⊥
      below t m h is = go t
        where
          i : IsOne W x loads k m
          i = one_of W x loads k m (choices_declared W x k m h)

          name : name_at W i.number ≡ name_at W f.owner
          name = i.name ∙ sym is.owner

          up : is_superinterface W x (name_at W f.owner) ≡ true
          up = subst (λ y. is_superinterface W x y ≡ true) name i.above

          go : (name_at W f.owner ≡ x) ⊎ (is_interface_of W (name_at W f.owner) ≡ false) → ⊥
          go (inr n) = contradicts (is_interface_of W (name_at W f.owner)) (above_good W x (name_at W f.owner) loads up).1 n
          go (inl e) = no_circle W side x loads (subst (λ y. is_interface_of W y ≡ true) e (above_good W x (name_at W f.owner) loads up).1) (subst (λ y. is_superinterface W x y ≡ true) e up)

      pub front_passes : (p : DeclaredMember → Bool) → ((m : DeclaredMember) → IsFound W f m → p m ≡ true) → (name_at W f.owner ≡ x) ⊎ (is_interface_of W (name_at W f.owner) ≡ false) → true ≡ list_all p (lookup_choices W x k)
      unfolding or_choices
      front_passes p o t = sym (ap (list_all p) (front_or W x k) ∙ go (front_method W x k) (subst (IsChoice W (Some f)) (front_or W x k) c))
        where
          go : (v : Option DeclaredMember) → IsChoice W (Some f) (or_choices v (superinterface_choices W x k)) → list_all p (or_choices v (superinterface_choices W x k)) ≡ true
          go (Some m) h = only_last (p m) ∙ o m (the_one W f m (superinterface_choices W x k) h)
          go None h = absurd (below t h.0 h.1 h.2)

      -- it is one
      pub above_only : (name_at W f.owner ≡ x → ⊥) → is_interface_of W (name_at W f.owner) ≡ true → lookup_choices W x k ≡ superinterface_choices W x k
      unfolding or_choices
      above_only n i = front_or W x k ∙ go (front_method W x k) refl (subst (IsChoice W (Some f)) (front_or W x k) c)
        where
          no_front : (m : DeclaredMember) → (m.owner ≡ x) ⊎ (is_interface_of W m.owner ≡ false) → name_at W f.owner ≡ m.owner → ⊥
          no_front m (inl p) e = n (e ∙ p)
          no_front m (inr p) e = contradicts (is_interface_of W (name_at W f.owner)) i (ap (is_interface_of W) e ∙ p)

          go : (v : Option DeclaredMember) → front_method W x k ≡ v → IsChoice W (Some f) (or_choices v (superinterface_choices W x k)) → or_choices v (superinterface_choices W x k) ≡ superinterface_choices W x k
          go None e h = refl
          go (Some m) e h = absurd (no_front m (front_kind m e) (the_one W f m (superinterface_choices W x k) h).owner)

-- ---- by numbers

module _ (W : World) (side : IsSide W) (a : ℕ) (l : a < size W) (loads : load_fault W (name_at W a) ≡ None) (k : Key) (f : Found) (c : IsChoice W (Some f) (lookup_choices W (name_at W a) k)) (below : f.owner < size W) where
  pub front_holds : (p : DeclaredMember → Bool) → ((m : DeclaredMember) → IsFound W f m → p m ≡ true) → (b : Bool) → b ≡ (f.owner == a || not (is_interface_of W (name_at W f.owner))) → b ≡ true → true ≡ list_all p (lookup_choices W (name_at W a) k)
  front_holds p o b e t = front_passes W side (name_at W a) loads k f c p o (go (or_cases (f.owner == a) (not (is_interface_of W (name_at W f.owner))) (sym e ∙ t)))
    where
      go : ((f.owner == a) ≡ true) ⊎ (not (is_interface_of W (name_at W f.owner)) ≡ true) → (name_at W f.owner ≡ name_at W a) ⊎ (is_interface_of W (name_at W f.owner) ≡ false)
      go (inl p) = inl (ap (name_at W) (eqb-true f.owner a p))
      go (inr p) = inr (not-true (is_interface_of W (name_at W f.owner)) p)

  pub above_holds : (p : DeclaredMember → Bool) (b r : Bool) → b ≡ (f.owner == a || not (is_interface_of W (name_at W f.owner))) → b ≡ false → r ≡ list_all p (superinterface_choices W (name_at W a) k) → r ≡ list_all p (lookup_choices W (name_at W a) k)
  above_holds p b r e t h = h ∙ sym (ap (list_all p) (above_only W side (name_at W a) loads k f c other kind))
    where
      n : (f.owner == a || not (is_interface_of W (name_at W f.owner))) ≡ false
      n = sym e ∙ t

      other : name_at W f.owner ≡ name_at W a → ⊥
      other q = contradicts (same (name_at W f.owner) (name_at W a)) (ap (λ y. same y (name_at W a)) q ∙ same_itself (name_at W a)) (same_number W side.differ f.owner a below l ∙ neither_first (f.owner == a) (not (is_interface_of W (name_at W f.owner))) n)

      kind : is_interface_of W (name_at W f.owner) ≡ true
      kind = go (is_interface_of W (name_at W f.owner)) refl (neither_last (f.owner == a) (not (is_interface_of W (name_at W f.owner))) n)
        where
          go : (v : Bool) → is_interface_of W (name_at W f.owner) ≡ v → not v ≡ false → v ≡ true
          go true q p = refl
          go false q p = absurd (let clash : true ≡ false = p in cc)

  pub front_said : (b : Bool) → b ≡ (f.owner == a || not (is_interface_of W (name_at W f.owner))) → b ≡ true → open_class W (name_at W f.owner) ≡ true → true ≡ owners_open W (name_at W a) k
  front_said b e t o = front_holds (is_owner_open W) (λ m i. ap (open_class W) (sym i.owner) ∙ o) b e t

  pub shut_said : (b : Bool) → b ≡ open_class W (name_at W f.owner) → b ≡ false → false ≡ owners_open W (name_at W a) k
  shut_said b e t = one_shut W side (name_at W a) loads k f c (sym e ∙ t)

-- nothing is found
pub nothing_found : (W : World) (x : Bytes) (k : Key) → IsChoice W None (lookup_choices W x k) → true ≡ choices_open W x k
nothing_found W x k h = sym (ap (list_all (is_said_open (is_interface_of W x) W)) h)

-- ---- of references to an interface

pub interface_said : (W : World) (x : Bytes) (k : Key) (b r : Bool) → b ≡ is_interface_of W x → b ≡ true → r ≡ owners_open W x k → r ≡ choices_open W x k
interface_said W x k b r e t h = h ∙ ap (λ c. list_all (λ m. is_said_open c W m) (lookup_choices W x k)) (sym t ∙ e)

-- ---- of references to a class

module _ (W : World) (x : Bytes) (loads : load_fault W x ≡ None) (k : Key) where
  -- what superinterfaces give is of interfaces
  pub above_kind : (m : DeclaredMember) → Contains (superinterface_choices W x k) m → is_interface_of W m.owner ≡ true
  above_kind m h =
      let i : IsOne W x loads k m = one_of W x loads k m (choices_declared W x k m h) in
      ap (is_interface_of W) (sym i.name) ∙ (above_good W x (name_at W i.number) loads i.above).1

  pub above_said_open : list_all (is_said_open false W) (superinterface_choices W x k) ≡ true
  above_said_open = all_each (is_said_open false W) (superinterface_choices W x k)
      (each_from (λ m. is_said_open false W m ≡ true) (superinterface_choices W x k) (λ m h. ap (λ b. b || is_owner_open W m) (above_kind m h)))

  -- one that may be found decides
  class_said : (f : Found) → IsChoice W (Some f) (lookup_choices W x k) → is_interface_of W x ≡ false → (is_interface_of W (name_at W f.owner) || open_class W (name_at W f.owner)) ≡ choices_open W x k
  unfolding or_choices
  class_said f c i = sym (ap (λ b. list_all (is_said_open b W) (lookup_choices W x k)) i ∙ ap (list_all (is_said_open false W)) (front_or W x k) ∙ go (front_method W x k) (subst (IsChoice W (Some f)) (front_or W x k) c))
    where
      go : (v : Option DeclaredMember) → IsChoice W (Some f) (or_choices v (superinterface_choices W x k)) → list_all (is_said_open false W) (or_choices v (superinterface_choices W x k)) ≡ (is_interface_of W (name_at W f.owner) || open_class W (name_at W f.owner))
      go (Some m) h = only_last (is_said_open false W m) ∙ ap (λ y. is_interface_of W y || open_class W y) (sym (the_one W f m (superinterface_choices W x k) h).owner)
      go None h = above_said_open ∙ sym (ap (λ b. b || open_class W (name_at W f.owner)) (ap (is_interface_of W) h.2.owner ∙ above_kind h.0 h.1))

  pub by_owner : (f : Found) → IsChoice W (Some f) (lookup_choices W x k) → (b r : Bool) → b ≡ is_interface_of W x → b ≡ false → r ≡ (is_interface_of W (name_at W f.owner) || open_class W (name_at W f.owner)) → r ≡ choices_open W x k
  by_owner f c b r e t h = h ∙ class_said f c (sym e ∙ t)

-- ---- of what javac makes handles

some_there : (ms : List DeclaredMember) (m : DeclaredMember) → Contains ms m → not (are_none ms) ≡ true
some_there [] m h = absurd (none m h)
some_there (n ∷ ms) m h = refl

pub nothing_referable : (W : World) (x : Bytes) (k : Key) → IsChoice W None (lookup_choices W x k) → false ≡ finds_referable W x k
nothing_referable W x k h = sym (ap (λ ms. not (are_none ms) && list_all is_referable ms) h)

-- one is found, so that all decide
all_decide : (W : World) (x : Bytes) (k : Key) (f : Found) → IsChoice W (Some f) (lookup_choices W x k) → list_all is_referable (lookup_choices W x k) ≡ finds_referable W x k
all_decide W x k f c = sym (ap (λ b. b && list_all is_referable (lookup_choices W x k)) (some_there (lookup_choices W x k) c.0 c.1))

pub unfit_said : (W : World) (x : Bytes) (k : Key) (f : Found) → IsChoice W (Some f) (lookup_choices W x k) → (b : Bool) → b ≡ are_flags_fit f.flags → b ≡ false → false ≡ finds_referable W x k
unfit_said W x k f c b e t = sym (not_all is_referable (lookup_choices W x k) c.0 c.1 (ap are_flags_fit (sym c.2.flags) ∙ sym e ∙ t)) ∙ all_decide W x k f c

module _ (W : World) (side : IsSide W) (a : ℕ) (l : a < size W) (loads : load_fault W (name_at W a) ≡ None) (k : Key) (f : Found) (c : IsChoice W (Some f) (lookup_choices W (name_at W a) k)) (below : f.owner < size W) where
  pub front_fits : (b : Bool) → b ≡ (f.owner == a || not (is_interface_of W (name_at W f.owner))) → b ≡ true → are_flags_fit f.flags ≡ true → true ≡ finds_referable W (name_at W a) k
  front_fits b e t o = front_holds W side a l loads k f c below is_referable (λ m i. ap are_flags_fit (sym i.flags) ∙ o) b e t ∙ all_decide W (name_at W a) k f c

  pub above_fits : (b r : Bool) → b ≡ (f.owner == a || not (is_interface_of W (name_at W f.owner))) → b ≡ false → r ≡ list_all is_referable (superinterface_choices W (name_at W a) k) → r ≡ finds_referable W (name_at W a) k
  above_fits b r e t h = above_holds W side a l loads k f c below is_referable b r e t h ∙ all_decide W (name_at W a) k f c
