-- A test on a class and those above it, along a walk up the superclasses.
use Rattle.std.proofs.Common.{◌≡◌, ◌<◌, ℕ, suc, Bool, true, false, ◌||◌, List, [], length, map, take, set, eqb, refl, sym, ◌∙◌, ap, subst, Option, Some, None, is_some, ◌⊎◌, inl, inr, ◌≢◌, arith, ◌≤◌, cond}
use Rattle.std.specs.Prelude.{IfSome}
use Rattle.std.specs.Bool.{then_some}
use Rattle.std.specs.List.{list_any}
use Rattle.std.proofs.lemmas.Bool.Decides.{eqb_tells}
use Rattle.std.proofs.lemmas.List.{get_or-map, take_all}
use Rattle.std.proofs.lemmas.List.Folds.{list_any-append}
use Rattle.std.proofs.lemmas.List.Elements.{recursion_from_All}
use Rattle.jc_facts.specs.declared.class_facts.ClassFacts.{ClassFacts}
use Rattle.jc_facts.specs.declared.link_error.LinkError.{LinkError}
use Rattle.jc_facts.specs.Names.{Bytes}
use Rattle.jc_facts.specs.Options.{and_then, some_and}
use Rattle.jc_facts.specs.world.World.{World, find_class, size}
use Rattle.jc_facts.specs.world.Search.{supers_of}
use Rattle.jc_facts.specs.world.Hierarchy.{chain, each, interfaces_of, of_super, superinterfaces, with_interfaces}
use Rattle.jc_facts.specs.world.Loading.{fault_at, load_fault}
use Rattle.jc_facts.proofs.World.{find-name}
use Rattle.jc_lemmas.proofs.Bools.{neither_first, neither_last}
use Rattle.jc_lemmas.proofs.Listed.{EachOf, EachOf-map, list_any-same}
use Rattle.jc_lemmas.proofs.Options.{none_from}
use Rattle.jc_worlds.specs.Hierarchy.{above}
use Rattle.jc_worlds.proofs.Loaded.{loaded-level, loaded-parts, loads-found, loads-parts}
use Rattle.jc_worlds.proofs.Unrolled.{chain-unroll}
use Rattle.jc_index.specs.Above.{AreAbove}
use Rattle.jc_index.specs.Ids.{id_of, name_at, names, superclass_of}
use Rattle.jc_index.proofs.Numbers.{IsClass, names-length, names-find, at-in, id_of-Some, is_class, number_of, superclass_is}
use Rattle.jc_index.proofs.Reached.{any_reached}
use Rattle.jc_acts.specs.Touched.{flag_at, passes_above, AreFlags}
use Rattle.jc_acts.specs.steps.Known.{fails_or_passes, known_at, known_first, passes_at, AreKnown, IsKnown}
use Rattle.jc_acts.proofs.Covering.{put}

regroup : (c r e i : Bool) → ((c || r) || (e || i)) ≡ ((c || e) || (r || i))
regroup true r e i = refl
regroup false true true i = refl
regroup false true false i = refl
regroup false false e i = refl

-- it is the class, one of its superclasses, an interface that it leads to, or a superinterface of its superclass
pub above_is : (W : World) (q : ClassFacts → Bool) (y : Bytes) (c : ClassFacts) → find_class W y ≡ Some c → load_fault W y ≡ None
    → list_any q (above W y) ≡ ((q c || list_any q (of_super (chain W) c.superclass)) || (list_any q (each (with_interfaces W) c.interfaces) || list_any q (interfaces_of W (of_super (chain W) c.superclass))))
unfolding superinterfaces interfaces_of
above_is W q y c f l =
    list_any-append q (chain W y) (superinterfaces W y)
    ∙ ap (λ cs. list_any q cs || list_any q (interfaces_of W cs)) (chain-unroll W y c f l)
    ∙ ap (λ b. (q c || list_any q (of_super (chain W) c.superclass)) || b) (list_any-append q (each (with_interfaces W) c.interfaces) (interfaces_of W (of_super (chain W) c.superclass)))

pub at_number : (W : World) (n : ℕ) → n < size W → IsClass W (name_at W n)
at_number W n l = is_class W (name_at W n) (names-find W (name_at W n) (at-in (names W) n (subst (λ m. n < m) (sym (names-length W)) l)))

-- ---- flags

pub flag_of : (W : World) (p : Bytes → Bool) (flags : List Bool) → AreFlags W p flags → (n : ℕ) → n < size W → (c : ClassFacts) → Some c ≡ find_class W (name_at W n) → flag_at flags n ≡ p c.name
flag_of W p flags are n l c f = are.each n l ∙ ap p (sym (find-name W (name_at W n) c (sym f)))

-- the flags of the interfaces that a class leads to
pub led_flags : (W : World) (p : Bytes → Bool) (flags : List Bool) → AreFlags W p flags → (x : Bytes) (c : ClassFacts) → find_class W x ≡ Some c → (ids : List ℕ) → AreAbove W x ids → list_any (flag_at flags) ids ≡ list_any (λ d. p d.name) (each (with_interfaces W) c.interfaces)
led_flags W p flags are x c f ids a =
    list_any-same (flag_at flags) (λ n. some_and (λ d. p d.name) (find_class W (name_at W n))) ids (EachOf-map one ids (recursion_from_All (λ n. n < size W) ids a.within))
    ∙ sym (any_reached W (λ d. p d.name) x c f ids a)
  where
    one : (n : ℕ) → n < size W → flag_at flags n ≡ some_and (λ d. p d.name) (find_class W (name_at W n))
    one n l =
        let t = at_number W n l in
        are.each n l ∙ ap p (sym t.name) ∙ sym (ap (some_and (λ d. p d.name)) t.found)

-- ---- what is known

-- what is told of the class of the number, no where there is none
abbrev pub passes_up : World → (Bytes → Bool) → Option ℕ → Bool
passes_up W p None = false
passes_up W p (Some n) = passes_above W p (name_at W n)

module _ (W : World) (p : Bytes → Bool) where
  abbrev q : ClassFacts → Bool
  q c = p c.name

  -- one of these superclasses, or of their superinterfaces
  abbrev beyond : Option Bytes → Bool
  beyond o = list_any q (of_super (chain W) o) || list_any q (interfaces_of W (of_super (chain W) o))

  above_one : (x : Bytes) (c : ClassFacts) → find_class W x ≡ Some c → load_fault W x ≡ None → list_any q (above W x) ≡ (passes_at W p x || beyond c.superclass)
  above_one x c f l =
      let up = list_any q (of_super (chain W) c.superclass) in
      let led = list_any q (each (with_interfaces W) c.interfaces) in
      let far = list_any q (interfaces_of W (of_super (chain W) c.superclass)) in
      above_is W q x c f l ∙ regroup (q c) up led far ∙ ap (λ b. b || beyond c.superclass) (sym (ap (some_and (λ d. p d.name || list_any (λ e. p e.name) (each (with_interfaces W) d.interfaces))) f))

  -- where all that it names loads, that is what is told of the superclass
  beyond_is : (o : Option Bytes) (is : List Bytes) → EachOf (λ s. load_fault W s ≡ None) (supers_of o is) → beyond o ≡ passes_up W p (and_then (id_of W) o)
  unfolding interfaces_of superinterfaces and_then
  beyond_is None is l = refl
  beyond_is (Some s) is l =
      let k = number_of W s (ap is_some (loads-found W s l.0).1) in
      sym (list_any-append q (chain W s) (superinterfaces W s)) ∙ sym (ap (λ o. is_some o || list_any q (above W s)) l.0)
      ∙ ap (passes_above W p) (sym (id_of-Some W s k.0 k.1).1) ∙ sym (ap (passes_up W p) k.1)

  first_is : (x : Bytes) (b : Bool) → fails_or_passes W p x ≡ b → IsKnown W p x (then_some b true)
  first_is x false e = e
  first_is x true e = sym (go (load_fault W x) refl e)
    where
      go : (o : Option LinkError) → load_fault W x ≡ o → (is_some o || passes_at W p x) ≡ true → (is_some o || list_any q (above W x)) ≡ true
      go (Some f) l h = refl
      go None l h = let t = loads-found W x l in above_one x t.0 t.1 l ∙ ap (λ b. b || beyond t.0.superclass) h

  -- what is known of each before any above it is asked
  pub all_first : (known : List (Option Bool)) (n : ℕ) → size W ≤ n → known ≡ map (known_first W p) (take n (names W)) → AreKnown W p known
  all_first known n l h k i =
      subst (IsKnown W p (name_at W k)) (sym (ap (λ os. known_at os k) e ∙ get_or-map (known_first W p) (names W) k [] None (subst (λ m. k < m) (sym (names-length W)) i)))
      (first_is (name_at W k) (fails_or_passes W p (name_at W k)) refl)
    where
      e : known ≡ map (known_first W p) (names W)
      e = h ∙ ap (map (known_first W p)) (take_all n (names W) (subst (λ m. m ≤ n) (sym (names-length W)) l))

  module _ (id : ℕ) (inside : id < size W) (alone : fails_or_passes W p (name_at W id) ≡ false) where
    loaded : load_fault W (name_at W id) ≡ None
    loaded = none_from (load_fault W (name_at W id)) (neither_first (is_some (load_fault W (name_at W id))) (passes_at W p (name_at W id)) alone)

    -- of one that loads and doesn't pass by itself is told what is told of its superclass
    passes_on : passes_above W p (name_at W id) ≡ passes_up W p (superclass_of W (name_at W id))
    passes_on =
        let x : Bytes = name_at W id in
        let t = at_number W id inside in
        ap (λ o. is_some o || list_any q (above W x)) loaded ∙ above_one x t.facts t.found loaded
        ∙ ap (λ b. b || beyond t.facts.superclass) (neither_last (is_some (load_fault W x)) (passes_at W p x) alone)
        ∙ beyond_is t.facts.superclass t.facts.interfaces (loads-parts W x t.facts t.found loaded).0
        ∙ ap (passes_up W p) (sym (superclass_is W x t.facts (sym t.found)))

  -- ---- the way up to one of which something is known

  -- so far nothing is, and the class loads with as many levels as are left, or all are
  pub record IsUp (x : Bytes) (m : ℕ) (next : Option ℕ) : Type 0 where
    pub same : passes_above W p x ≡ passes_up W p next
    pub levels : IfSome next (λ id. (m ≡ size W) ⊎ (fault_at W m (name_at W id) ≡ None))

  pub begins : (id m : ℕ) → m ≡ size W → IsUp (name_at W id) m (Some id)
  begins id m e = record { same = refl; levels = inl e }

  pub ends_at_top : (x : Bytes) (m : ℕ) (next : Option ℕ) → next ≡ None → IsUp x m next → false ≡ passes_above W p x
  ends_at_top x m next e on = sym (on.same ∙ ap (passes_up W p) e)

  -- no class is left where no level is
  pub ends : (x : Bytes) (m : ℕ) (next : Option ℕ) → m ≡ 0 → IfSome next (λ id. id < size W) → IsUp x m next → false ≡ passes_above W p x
  ends x m None e i on = ends_at_top x m None refl on
  ends x m (Some id) e i on = absurd (go on.levels)
    where
      go : (m ≡ size W) ⊎ (fault_at W m (name_at W id) ≡ None) → ⊥
      go (inl k) = let l : id < size W = i in omega arith
      go (inr k) = let l = loaded-level W m (name_at W id) k in let q : m ≡ suc l.0 = l.1 in omega arith

  pub goes_on : (x : Bytes) (m n id : ℕ) (next up : Option ℕ) → m ≡ suc n → next ≡ Some id → id < size W → IsKnown W p (name_at W id) None → up ≡ superclass_of W (name_at W id) → IsUp x m next → IsUp x n up
  unfolding load_fault and_then
  goes_on x m n id next up e f l h u on = record {
    same = on.same ∙ ap (passes_up W p) f ∙ passes_on id l h ∙ ap (passes_up W p) (sym u);
    levels = by t.facts.superclass t.facts.interfaces (loaded-parts W n (name_at W id) t.facts t.found (to_so_many (subst (λ o. IfSome o (λ k. (m ≡ size W) ⊎ (fault_at W m (name_at W k) ≡ None))) f on.levels))).0 up (u ∙ superclass_is W (name_at W id) t.facts (sym t.found));
  }
    where
      t : IsClass W (name_at W id)
      t = at_number W id l

      to_so_many : (m ≡ size W) ⊎ (fault_at W m (name_at W id) ≡ None) → fault_at W (suc n) (name_at W id) ≡ None
      to_so_many (inl k) = ap (λ j. fault_at W j (name_at W id)) (sym e ∙ k) ∙ loaded id l h
      to_so_many (inr k) = ap (λ j. fault_at W j (name_at W id)) (sym e) ∙ k

      by : (o : Option Bytes) (is : List Bytes) → EachOf (λ s. fault_at W n s ≡ None) (supers_of o is) → (k : Option ℕ) → k ≡ and_then (id_of W) o → IfSome k (λ j. (n ≡ size W) ⊎ (fault_at W n (name_at W j) ≡ None))
      by o is a None q = tt
      by None is a (Some j) q = absurd (let clash : Some j ≡ None = q in cc)
      by (Some s) is a (Some j) q = inr (ap (fault_at W n) (id_of-Some W s j (sym q)).1 ∙ a.0)

  -- ---- the same way, on which the answer is noted

  module _ (answer : Bool) where
    pub record IsNoting (known : List (Option Bool)) (next : Option ℕ) : Type 0 where
      pub true_so_far : AreKnown W p known
      pub ahead : IfSome next (λ id. answer ≡ passes_above W p (name_at W id))

    pub notes : (known : List (Option Bool)) (id : ℕ) (next up : Option ℕ) → length known ≡ size W → next ≡ Some id → id < size W → known_at known id ≡ None → up ≡ superclass_of W (name_at W id) → IsNoting known next → IsNoting (set known id (Some answer)) up
    notes known id next up c f l e u on = record {
      true_so_far = λ k i. go k i (eqb_tells id k) (put known id k (Some answer) None (subst (λ m. id < m) (sym c) l));
      ahead = by up (here ∙ passes_on id l alone ∙ ap (passes_up W p) (sym u));
    }
      where
        here : answer ≡ passes_above W p (name_at W id)
        here = subst (λ o. IfSome o (λ k. answer ≡ passes_above W p (name_at W k))) f on.ahead

        alone : fails_or_passes W p (name_at W id) ≡ false
        alone = subst (IsKnown W p (name_at W id)) e (on.true_so_far id l)

        go : (k : ℕ) → k < size W → ((eqb id k ≡ true) × (id ≡ k)) ⊎ ((eqb id k ≡ false) × (id ≢ k)) → known_at (set known id (Some answer)) k ≡ cond (eqb id k) (Some answer) (known_at known k) → IsKnown W p (name_at W k) (known_at (set known id (Some answer)) k)
        go k i (inl t) q = subst (IsKnown W p (name_at W k)) (sym (q ∙ ap (λ b. cond b (Some answer) (known_at known k)) t.0)) (here ∙ ap (λ j. passes_above W p (name_at W j)) t.1)
        go k i (inr t) q = subst (IsKnown W p (name_at W k)) (sym (q ∙ ap (λ b. cond b (Some answer) (known_at known k)) t.0)) (on.true_so_far k i)

        by : (o : Option ℕ) → answer ≡ passes_up W p o → IfSome o (λ k. answer ≡ passes_above W p (name_at W k))
        by None q = tt
        by (Some k) q = q
