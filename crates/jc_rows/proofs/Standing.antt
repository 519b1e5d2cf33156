-- The classes that stand on the release: which they are, and how they are marked along the load order.
use Rattle.std.proofs.Common.{◌≡◌, ℕ, ◌<◌, ◌≤◌, ◌+◌, Bool, true, false, not, ◌||◌, cond, List, [], ◌∷◌, ◌++◌, length, map, take, set, get_or, refl, sym, ◌∙◌, ap, subst, Option, Some, None, ◌⊎◌, inl, inr, arith}
use Rattle.std.specs.Prelude.{is_some, is_none}
use Rattle.std.specs.List.{Contains, list_any}
use Rattle.std.proofs.lemmas.Bool.{and_parts, or_cases, or_left, or_right, cases_eq, not-true}
use Rattle.std.proofs.lemmas.List.{length-set, length-map, get_or-set_same, get_or-set_other, get_or_default, get_or-map, same_lists, append_assoc, take_more, take_all}
use Rattle.std.proofs.lemmas.List.Elements.{Contains-push_cases}
use Rattle.std.specs.Cmp.{both_ways}
use Rattle.jc_facts.specs.declared.class_facts.ClassFacts.{ClassFacts}
use Rattle.jc_facts.specs.declared.link_error.LinkError.{LinkError}
use Rattle.jc_facts.specs.world.World.{differ_by_name, World, classes, size, find_class, class_named}
use Rattle.jc_facts.specs.Names.{Bytes, same}
use Rattle.jc_facts.specs.Options.{and_then}
use Rattle.jc_facts.specs.world.Loading.{load_fault}
use Rattle.jc_facts.specs.world.Search.{supers, supers_of}
use Rattle.jc_facts.proofs.Same.{same_is, same_itself}
use Rattle.jc_facts.proofs.World.{find-name, class_named-each}
use Rattle.jc_lemmas.proofs.Listed.{EachOf, EachOf-map, Passes, each_from, each_in, none, cases, any_has, any_passes, list_any-same}
use Rattle.jc_worlds.proofs.Absent.{class_named-back}
use Rattle.jc_worlds.proofs.Loaded.{loads-parts}
use Rattle.jc_index.specs.Ids.{id_of, name_at, names}
use Rattle.jc_index.specs.Interfaces.{interfaces_of}
use Rattle.jc_index.specs.LoadOrder.{IsNext, IsLoadOrder}
use Rattle.jc_index.specs.Sides.{IsSide}
use Rattle.jc_index.proofs.Keeps.{interfaces_is}
use Rattle.jc_index.proofs.Numbers.{class_at, id_of-Some, names-length, is_none-None, superclass_is}
use Rattle.jc_rows.specs.WithRows.{stands_on_release}
use Rattle.jc_rows.specs.steps.Marking.{numbers_above, marked_at, stands_by, AreStanding}
use Rattle.jc_rows.proofs.Filling.{next_at}
use Rattle.jc_rows.proofs.WithRows.{is_over, over-itself, over-named, over-on, over-down, standing-loads, standing-over, standing-from}

-- ---- the platform's classes and the release's

there_is : (cs : List ClassFacts) (c : ClassFacts) → Contains cs c → is_some (class_named cs c.name) ≡ true
unfolding class_named
there_is [] c k = absurd (none c k)
there_is (d ∷ cs) c k = go (same d.name c.name) refl (cases d cs c k) (there_is cs c)
  where
    go : (b : Bool) → same d.name c.name ≡ b → (d ≡ c) ⊎ Contains cs c → (Contains cs c → is_some (class_named cs c.name) ≡ true) → is_some (cond b (Some d) (class_named cs c.name)) ≡ true
    go true s k r = refl
    go false s (inl e) r = absurd (let z : true ≡ false = sym (same_itself c.name) ∙ ap (λ (y : ClassFacts). same y.name c.name) (sym e) ∙ s in cc)
    go false s (inr k) r = r k

-- where names differ, what stands behind is not in front
apart : (ps rest : List ClassFacts) (x : Bytes) → differ_by_name (ps ++ rest) ≡ true → is_some (class_named rest x) ≡ true → class_named ps x ≡ None
unfolding differ_by_name class_named
apart [] rest x h s = refl
apart (d ∷ ps) rest x h s = go (same d.name x) refl (apart ps rest x parts.1 s)
  where
    parts : (is_none (class_named (ps ++ rest) d.name) ≡ true) × (differ_by_name (ps ++ rest) ≡ true)
    parts = and_parts (is_none (class_named (ps ++ rest) d.name)) (differ_by_name (ps ++ rest)) h

    go : (b : Bool) → same d.name x ≡ b → class_named ps x ≡ None → cond b (Some d) (class_named ps x) ≡ None
    go false e r = r
    go true e r =
        let n : class_named (ps ++ rest) x ≡ None = ap (class_named (ps ++ rest)) (sym (same_is d.name x e)) ∙ is_none-None (class_named (ps ++ rest) d.name) parts.0 in
        absurd (let z : true ≡ false = sym s ∙ ap is_some (sym (class_named-back ps rest x r)) ∙ ap is_some n in cc)

-- ---- what a class names above itself, by numbers

module _ (W : World) (n : ℕ) (c : ClassFacts) (f : find_class W (name_at W n) ≡ Some c) where
  above-is : numbers_above W n ≡ and_then (id_of W) c.superclass ∷ map (id_of W) c.interfaces
  above-is = ap (λ (o : Option ℕ). o ∷ interfaces_of W (name_at W n)) (superclass_is W (name_at W n) c (sym f)) ∙ ap (λ (os : List (Option ℕ)). and_then (id_of W) c.superclass ∷ os) (interfaces_is W (name_at W n) c (sym f))

  any-above : (p : Option ℕ → Bool) → p None ≡ false → list_any p (numbers_above W n) ≡ list_any (λ s. p (id_of W s)) (supers c)
  unfolding and_then
  any-above p h = ap (list_any p) above-is ∙ go c.superclass
    where
      each : (is : List Bytes) → list_any p (map (id_of W) is) ≡ list_any (λ s. p (id_of W s)) is
      each [] = refl
      each (i ∷ is) = ap (λ (b : Bool). p (id_of W i) || b) (each is)

      go : (o : Option Bytes) → list_any p (and_then (id_of W) o ∷ map (id_of W) c.interfaces) ≡ list_any (λ s. p (id_of W s)) (supers_of o c.interfaces)
      go None = ap (λ (b : Bool). b || list_any p (map (id_of W) c.interfaces)) h ∙ each c.interfaces
      go (Some s) = ap (λ (b : Bool). p (id_of W s) || b) (each c.interfaces)

  module _ (P : Option ℕ → Type 0) where
    each_to : (is : List Bytes) → EachOf (λ s. P (id_of W s)) is → EachOf P (map (id_of W) is)
    each_to [] h = tt
    each_to (i ∷ is) h = (h.0, each_to is h.1)

    each_back : (is : List Bytes) → EachOf P (map (id_of W) is) → EachOf (λ s. P (id_of W s)) is
    each_back [] h = tt
    each_back (i ∷ is) h = (h.0, each_back is h.1)

    -- what holds of no number and of the numbers of all that the class names holds of these numbers
    pub to_numbers : P None → EachOf (λ s. P (id_of W s)) (supers c) → EachOf P (numbers_above W n)
    unfolding and_then
    to_numbers h k = subst (EachOf P) (sym above-is) (go c.superclass k)
      where
        go : (o : Option Bytes) → EachOf (λ s. P (id_of W s)) (supers_of o c.interfaces) → EachOf P (and_then (id_of W) o ∷ map (id_of W) c.interfaces)
        go None k = (h, each_to c.interfaces k)
        go (Some s) k = (k.0, each_to c.interfaces k.1)

    -- and back
    pub from_numbers : EachOf P (numbers_above W n) → EachOf (λ s. P (id_of W s)) (supers c)
    unfolding and_then
    from_numbers k = go c.superclass (subst (EachOf P) above-is k)
      where
        go : (o : Option Bytes) → EachOf P (and_then (id_of W) o ∷ map (id_of W) c.interfaces) → EachOf (λ s. P (id_of W s)) (supers_of o c.interfaces)
        go None k = each_back c.interfaces k.1
        go (Some s) k = (k.0, each_back c.interfaces k.1)

module _ (W : World) (side : IsSide W) where
  all_classes : classes W ≡ W.platform ++ (W.release ++ W.clients)
  all_classes = append_assoc W.platform W.release W.clients

  both_differ : differ_by_name (W.platform ++ (W.release ++ W.clients)) ≡ true
  both_differ = ap differ_by_name (sym all_classes) ∙ side.differ

  of_release : (x : Bytes) → is_some (class_named (W.release ++ W.clients) x) ≡ true → class_named W.platform x ≡ None
  of_release x s = apart W.platform (W.release ++ W.clients) x both_differ s

  release_there : (c : ClassFacts) → Contains (W.release ++ W.clients) c → class_named W.platform c.name ≡ None
  release_there c i = of_release c.name (there_is (W.release ++ W.clients) c i)

  found_named : (x : Bytes) → find_class W x ≡ class_named (W.platform ++ (W.release ++ W.clients)) x
  unfolding find_class
  found_named x = ap (λ (cs : List ClassFacts). class_named cs x) all_classes

  -- a class that isn't the platform's is the release's or a client
  not_platform : (x : Bytes) → class_named W.platform x ≡ None → class_named (W.release ++ W.clients) x ≡ find_class W x
  not_platform x n = sym (found_named x ∙ class_named-back W.platform (W.release ++ W.clients) x n)

  in_release : (x : Bytes) (c : ClassFacts) → find_class W x ≡ Some c → is_some (class_named W.platform x) ≡ false → Contains (W.release ++ W.clients) c
  in_release x c f p = class_named-each (Contains (W.release ++ W.clients)) (W.release ++ W.clients) x c (each_from (Contains (W.release ++ W.clients)) (W.release ++ W.clients) (λ d i. i)) (not_platform x (go (class_named W.platform x) p) ∙ f)
    where
      go : (o : Option ClassFacts) → is_some o ≡ false → o ≡ None
      go None e = refl
      go (Some d) e = absurd (let z : true ≡ false = e in cc)

  -- ---- what stands on the release

  -- it is of the release, or a class that it names above itself stands on the release
  stands-step : (y : Bytes) (d : ClassFacts) → find_class W y ≡ Some d → load_fault W y ≡ None → stands_on_release W y ≡ (not (is_some (class_named W.platform y)) || list_any (stands_on_release W) (supers d))
  stands-step y d f l = both_ways (stands_on_release W y) (not (is_some (class_named W.platform y)) || list_any (stands_on_release W) (supers d)) down up
    where
      load : EachOf (λ s. load_fault W s ≡ None) (supers d)
      load = (loads-parts W y d f l).0

      down : stands_on_release W y ≡ true → (not (is_some (class_named W.platform y)) || list_any (stands_on_release W) (supers d)) ≡ true
      down h = go (over-down W side y d f l p.one.name p.passes)
        where
          p : Passes (λ c. is_over W y c.name) (W.release ++ W.clients)
          p = standing-over W y h

          go : (y ≡ p.one.name) ⊎ (list_any (λ s. is_over W s p.one.name) (supers d) ≡ true) → (not (is_some (class_named W.platform y)) || list_any (stands_on_release W) (supers d)) ≡ true
          go (inl e) =
              or_left (not (is_some (class_named W.platform y))) (list_any (stands_on_release W) (supers d))
              (ap (λ (z : Bytes). not (is_some (class_named W.platform z))) e ∙ ap (λ (o : Option ClassFacts). not (is_some o)) (release_there p.one p.is_in))
          go (inr a) =
              let q = any_passes (λ s. is_over W s p.one.name) (supers d) a in
              or_right (not (is_some (class_named W.platform y))) (list_any (stands_on_release W) (supers d))
              (any_has (stands_on_release W) (supers d) q.one q.is_in
              (standing-from W q.one (each_in (λ s. load_fault W s ≡ None) (supers d) q.one load q.is_in) p.one p.is_in q.passes))

      up : (not (is_some (class_named W.platform y)) || list_any (stands_on_release W) (supers d)) ≡ true → stands_on_release W y ≡ true
      up h = go (or_cases (not (is_some (class_named W.platform y))) (list_any (stands_on_release W) (supers d)) h)
        where
          go : (not (is_some (class_named W.platform y)) ≡ true) ⊎ (list_any (stands_on_release W) (supers d) ≡ true) → stands_on_release W y ≡ true
          go (inl n) = standing-from W y l d (in_release y d f (not-true (is_some (class_named W.platform y)) n)) (ap (is_over W y) (find-name W y d f) ∙ over-itself W y l)
          go (inr a) =
              let q = any_passes (stands_on_release W) (supers d) a in
              let p = standing-over W q.one q.passes in
              standing-from W y l p.one p.is_in
              (over-on W side y q.one l (standing-loads W q.one q.passes) (each_in (λ s. is_over W y s ≡ true) (supers d) q.one (over-named W y d f l) q.is_in) p.one.name p.passes)

  -- ---- the walk

  module _ (before : List ℕ) (n : ℕ) (next : IsNext W before n) (c : ClassFacts) (f : find_class W (name_at W n) ≡ Some c) (made : List Bool) (m : AreStanding W before made) where
    -- what the class names above itself stands before it
    mark_before : (s : Bytes) → (i : ℕ) × (id_of W s ≡ Some i) × Contains before i → marked_at made (id_of W s) ≡ stands_on_release W s
    mark_before s q = ap (marked_at made) q.1 ∙ m.done q.0 q.2 ∙ ap (stands_on_release W) (id_of-Some W s q.0 q.1).1

    stands-right : stands_by W made n ≡ stands_on_release W (name_at W n)
    stands-right =
        ap (λ (b : Bool). not (is_some (class_named W.platform (name_at W n))) || b)
        (any-above W n c f (marked_at made) refl
        ∙ list_any-same (λ s. marked_at made (id_of W s)) (stands_on_release W) (supers c) (EachOf-map mark_before (supers c) (next.above c f)))
        ∙ sym (stands-step (name_at W n) c f next.loads)

    standing-goes : AreStanding W (before ++ (n ∷ [])) (set made n (stands_by W made n))
    standing-goes = record {
      count = length-set made n (stands_by W made n) ∙ m.count;
      done = λ j k. at j k (cases_eq j n);
      unloaded = λ j h. other j h (cases_eq j n);
    }
      where
        at : (j : ℕ) → Contains (before ++ (n ∷ [])) j → (j ≡ n) ⊎ (j ≡ n → ⊥) → get_or (set made n (stands_by W made n)) j false ≡ stands_on_release W (name_at W j)
        at j k (inl e) =
            ap (λ (i : ℕ). get_or (set made n (stands_by W made n)) i false) e
            ∙ get_or-set_same made n (stands_by W made n) false (let g = m.count in let w = next.within in omega (arith, g, w))
            ∙ stands-right ∙ ap (λ (i : ℕ). stands_on_release W (name_at W i)) (sym e)
        at j k (inr d) = get_or-set_other made n j (stands_by W made n) false d ∙ m.done j (go (Contains-push_cases before n j k))
          where
            go : Contains before j ⊎ (n ≡ j) → Contains before j
            go (inl i) = i
            go (inr e) = absurd (d (sym e))

        other : (j : ℕ) → (load_fault W (name_at W j) ≡ None → ⊥) → (j ≡ n) ⊎ (j ≡ n → ⊥) → get_or (set made n (stands_by W made n)) j false ≡ false
        other j h (inl e) = absurd (h (ap (λ (i : ℕ). load_fault W (name_at W i)) e ∙ next.loads))
        other j h (inr d) = get_or-set_other made n j (stands_by W made n) false d ∙ m.unloaded j h

  module _ (order : List ℕ) (o : IsLoadOrder W order) where
    pub standing-on : (at n i : ℕ) → at < length order → n ≡ get_or order at n → i ≡ n → (made : List Bool) (mark : Bool) → mark ≡ stands_by W made n
        → AreStanding W (take at order) made → AreStanding W (take (at + 1) order) (set made i mark)
    standing-on at n i l e is made mark h m =
        let next = next_at W order o.each at n l e in
        let k = class_at W n side.differ next.within in
        let same : set made i mark ≡ set made n (stands_by W made n) = ap (λ (j : ℕ). set made j mark) is ∙ ap (set made n) h in
        subst (λ (left : List ℕ). AreStanding W left (set made i mark)) (sym (take_more order at n l ∙ ap (λ (z : ℕ). take at order ++ (z ∷ [])) (sym e)))
        (subst (AreStanding W (take at order ++ (n ∷ []))) (sym same) (standing-goes (take at order) n next k.facts k.found made m))

    pub standing-ends : (at : ℕ) → length order ≤ at → (made : List Bool) → AreStanding W (take at order) made → made ≡ map (stands_on_release W) (names W)
    standing-ends at l made m = same_lists made (map (stands_on_release W) (names W)) (m.count ∙ sym (length-map (names W) (stands_on_release W) ∙ names-length W)) one
      where
        unloaded : (y : Bytes) → (load_fault W y ≡ None → ⊥) → (b : Bool) → stands_on_release W y ≡ b → b ≡ false
        unloaded y h false e = refl
        unloaded y h true e = absurd (h (standing-loads W y e))

        right : (n : ℕ) → n < size W → (o : Option LinkError) → load_fault W (name_at W n) ≡ o → get_or made n false ≡ stands_on_release W (name_at W n)
        right n k None e = m.done n (subst (λ (ns : List ℕ). Contains ns n) (sym (take_all at order l)) (o.all n k e))
        right n k (Some x) e =
            let h : load_fault W (name_at W n) ≡ None → ⊥ = λ q. let z : Some x ≡ None = sym e ∙ q in cc in
            m.unloaded n h ∙ sym (unloaded (name_at W n) h (stands_on_release W (name_at W n)) refl)

        one : (n : ℕ) (d : Bool) → n < length made → get_or made n d ≡ get_or (map (stands_on_release W) (names W)) n d
        one n d k =
            let w : n < size W = (let e = m.count in omega (arith, e, k)) in
            get_or_default made n d false k ∙ right n w (load_fault W (name_at W n)) refl
            ∙ sym (get_or-map (stands_on_release W) (names W) n [] d (let e = names-length W in omega (arith, e, w)))
