-- What is above the marked classes is marked, from the last class of the load order to the first.
use Rattle.std.proofs.Common.{◌≡◌, ℕ, ◌<◌, ◌≤◌, ◌+◌, ◌-◌, Bool, true, false, cond, List, [], ◌∷◌, ◌++◌, length, map, take, set, get_or, refl, sym, ◌∙◌, ap, subst, Option, Some, None, ◌⊎◌, inl, inr, arith}
use Rattle.std.specs.Prelude.{IfSome, is_some}
use Rattle.std.specs.List.{Contains}
use Rattle.std.proofs.lemmas.Bool.{cases_eq, cases_lt}
use Rattle.std.proofs.lemmas.List.{length-set, length-map, get_or-set_same, get_or-set_other, get_or_default, get_or_past, get_or-map, same_lists, take_more}
use Rattle.std.proofs.lemmas.List.Elements.{Contains-push_cases}
use Rattle.std.specs.Cmp.{both_ways}
use Rattle.jc_facts.specs.declared.class_facts.ClassFacts.{ClassFacts}
use Rattle.jc_facts.specs.Names.{Bytes, object_name}
use Rattle.jc_facts.specs.world.Loading.{load_fault}
use Rattle.jc_facts.specs.world.Search.{supers}
use Rattle.jc_facts.specs.world.World.{World, size, find_class}
use Rattle.jc_lemmas.proofs.Listed.{EachOf, EachOf-map, none}
use Rattle.jc_worlds.proofs.Loaded.{loads-found}
use Rattle.jc_index.specs.Ids.{id_of, name_at, names}
use Rattle.jc_index.specs.LoadOrder.{IsNext, AreInLoadOrder, IsLoadOrder}
use Rattle.jc_index.specs.Sides.{IsSide}
use Rattle.jc_index.proofs.Numbers.{class_at, id_of-Some, id_of-name_at, names-length, number_of}
use Rattle.jc_rows.specs.WithRows.{stands_on_release, has_rows}
use Rattle.jc_rows.specs.steps.Marking.{numbers_above, with_mark, with_marks, marks_from, IsMarked, IsMarking}
use Rattle.jc_rows.proofs.Filling.{next_at}
use Rattle.jc_rows.proofs.Standing.{to_numbers, from_numbers}
use Rattle.jc_rows.proofs.WithRows.{rows_least, rows-object, rows-standing, rows-up, standing-loads}

-- ---- marks that are set

pub mark-length : (made : List Bool) (o : Option ℕ) → length (with_mark made o) ≡ length made
mark-length made None = refl
mark-length made (Some n) = length-set made n true

marks-length : (made : List Bool) (os : List (Option ℕ)) → length (with_marks made os) ≡ length made
marks-length made [] = refl
marks-length made (o ∷ os) = marks-length (with_mark made o) os ∙ mark-length made o

-- a mark stays

set-stays : (made : List Bool) (n j : ℕ) → get_or made j false ≡ true → get_or (set made n true) j false ≡ true
set-stays made n j h = go (cases_eq j n) (cases_lt n (length made))
  where
    go : (j ≡ n) ⊎ (j ≡ n → ⊥) → (n < length made) ⊎ (length made ≤ n) → get_or (set made n true) j false ≡ true
    go (inr d) l = get_or-set_other made n j true false d ∙ h
    go (inl e) (inl l) = ap (λ (i : ℕ). get_or (set made n true) i false) e ∙ get_or-set_same made n true false l
    go (inl e) (inr past) = absurd (let z : true ≡ false = sym h ∙ get_or_past made j false (subst (λ (i : ℕ). length made ≤ i) (sym e) past) in cc)

mark-stays : (made : List Bool) (o : Option ℕ) (j : ℕ) → get_or made j false ≡ true → get_or (with_mark made o) j false ≡ true
mark-stays made None j h = h
mark-stays made (Some n) j h = set-stays made n j h

marks-stay : (made : List Bool) (os : List (Option ℕ)) (j : ℕ) → get_or made j false ≡ true → get_or (with_marks made os) j false ≡ true
marks-stay made [] j h = h
marks-stay made (o ∷ os) j h = marks-stay (with_mark made o) os j (mark-stays made o j h)

still-marked : (made now : List Bool) → ((j : ℕ) → get_or made j false ≡ true → get_or now j false ≡ true) → (o : Option ℕ) → IsMarked made o → IsMarked now o
still-marked made now more None h = h
still-marked made now more (Some n) h = more n h

-- no other mark is set

mark-other : (made : List Bool) (o : Option ℕ) (j : ℕ) → (o ≡ Some j → ⊥) → get_or (with_mark made o) j false ≡ get_or made j false
mark-other made None j h = refl
mark-other made (Some n) j h = get_or-set_other made n j true false (λ e. h (ap Some (sym e)))

marks-other : (made : List Bool) (os : List (Option ℕ)) (j : ℕ) → EachOf (λ o. o ≡ Some j → ⊥) os → get_or (with_marks made os) j false ≡ get_or made j false
marks-other made [] j h = refl
marks-other made (o ∷ os) j h = marks-other (with_mark made o) os j h.1 ∙ mark-other made o j h.0

-- these marks are set

abbrev IsBelow : ℕ → Option ℕ → Type 0
IsBelow count o = IfSome o (λ n. n < count)

mark-there : (made : List Bool) (o : Option ℕ) → IsBelow (length made) o → IsMarked (with_mark made o) o
mark-there made None h = h
mark-there made (Some n) h = get_or-set_same made n true false h

marks-there : (made : List Bool) (os : List (Option ℕ)) → EachOf (IsBelow (length made)) os → EachOf (IsMarked (with_marks made os)) os
marks-there made [] h = tt
marks-there made (o ∷ os) h = (
  still-marked (with_mark made o) (with_marks (with_mark made o) os) (marks-stay (with_mark made o) os) o (mark-there made o h.0),
  marks-there (with_mark made o) os (subst (λ (count : ℕ). EachOf (IsBelow count) os) (sym (mark-length made o)) h.1),
)

module _ (W : World) where
  -- ---- what is marked has rows

  abbrev Sound : List Bool → Type 0
  Sound made = (n : ℕ) → n < size W → get_or made n false ≡ true → has_rows W (name_at W n) ≡ true

  abbrev HasRows : Option ℕ → Type 0
  HasRows o = IfSome o (λ n. has_rows W (name_at W n) ≡ true)

  rows-numbered : (x : Bytes) → has_rows W x ≡ true → HasRows (id_of W x)
  rows-numbered x h = go (id_of W x) refl
    where
      go : (o : Option ℕ) → id_of W x ≡ o → HasRows o
      go None e = tt
      go (Some n) e = ap (has_rows W) (id_of-Some W x n e).1 ∙ h

  mark-sound : (made : List Bool) (o : Option ℕ) → Sound made → HasRows o → Sound (with_mark made o)
  mark-sound made None s h = s
  mark-sound made (Some n) s h = λ j l m. go j l m (cases_eq j n)
    where
      go : (j : ℕ) → j < size W → get_or (set made n true) j false ≡ true → (j ≡ n) ⊎ (j ≡ n → ⊥) → has_rows W (name_at W j) ≡ true
      go j l m (inl e) = ap (λ (i : ℕ). has_rows W (name_at W i)) e ∙ h
      go j l m (inr d) = s j l (sym (get_or-set_other made n j true false d) ∙ m)

  marks-sound : (made : List Bool) (os : List (Option ℕ)) → Sound made → EachOf HasRows os → Sound (with_marks made os)
  marks-sound made [] s h = s
  marks-sound made (o ∷ os) s h = marks-sound (with_mark made o) os (mark-sound made o s h.0) h.1

  -- ---- the walk

  module _ (side : IsSide W) where
    module _ (order : List ℕ) (o : IsLoadOrder W order) (made : List Bool) (e : made ≡ map (stands_on_release W) (names W)) where
      count : length made ≡ size W
      count = ap (λ (ms : List Bool). length ms) e ∙ length-map (names W) (stands_on_release W) ∙ names-length W

      at : (n : ℕ) → n < size W → get_or made n false ≡ stands_on_release W (name_at W n)
      at n l = ap (λ (ms : List Bool). get_or ms n false) e ∙ get_or-map (stands_on_release W) (names W) n [] false (let k = names-length W in omega (arith, k, l))

      pub object-below : IsBelow (length made) (id_of W object_name)
      object-below = go (id_of W object_name) refl
        where
          go : (o : Option ℕ) → id_of W object_name ≡ o → IsBelow (length made) o
          go None q = tt
          go (Some n) q = let l = (id_of-Some W object_name n q).0 in let c = count in omega (arith, c, l)

      pub marking-starts : IsMarking W order (with_mark made (id_of W object_name))
      marking-starts = record {
        count = mark-length made (id_of W object_name) ∙ count;
        object = mark-there made (id_of W object_name) object-below;
        standing = λ n l h. mark-stays made (id_of W object_name) n (at n l ∙ h);
        sound = mark-sound made (id_of W object_name) (λ n l h. rows-standing W (name_at W n) (sym (at n l) ∙ h)) (rows-numbered object_name (rows-object W side));
        closed = λ n l h k d. absurd (k (o.all n l h));
      }

    module _ (before : List ℕ) (n : ℕ) (next : IsNext W before n) (c : ClassFacts) (f : find_class W (name_at W n) ≡ Some c) (made : List Bool) (m : IsMarking W (before ++ (n ∷ [])) made) where
      -- another class isn't in what is left before, so it wasn't in what was left
      left : (j : ℕ) → (j ≡ n → ⊥) → (Contains before j → ⊥) → Contains (before ++ (n ∷ [])) j → ⊥
      left j d k q = go (Contains-push_cases before n j q)
        where
          go : Contains before j ⊎ (n ≡ j) → ⊥
          go (inl i) = k i
          go (inr e) = d (sym e)

      passed : get_or made n false ≡ false → IsMarking W before made
      passed e = record { count = m.count; object = m.object; standing = m.standing; sound = m.sound; closed = λ j l h k d. go j l h k d (cases_eq j n) }
        where
          go : (j : ℕ) → j < size W → load_fault W (name_at W j) ≡ None → (Contains before j → ⊥) → get_or made j false ≡ true → (j ≡ n) ⊎ (j ≡ n → ⊥) → EachOf (IsMarked made) (numbers_above W j)
          go j l h k d (inl i) = absurd (let z : true ≡ false = sym d ∙ ap (λ (t : ℕ). get_or made t false) i ∙ e in cc)
          go j l h k d (inr i) = m.closed j l h (left j i k) d

      abbrev above : List (Option ℕ)
      above = numbers_above W n

      stays : (j : ℕ) → get_or made j false ≡ true → get_or (with_marks made above) j false ≡ true
      stays j h = marks-stay made above j h

      -- a class that was looked at is marked only where it was
      unchanged : (j : ℕ) → (Contains before j → ⊥) → get_or (with_marks made above) j false ≡ get_or made j false
      unchanged j k = marks-other made above j (to_numbers W n c f (λ o. o ≡ Some j → ⊥) (λ e. let z : None ≡ Some j = e in cc) (EachOf-map other (supers c) (next.above c f)))
        where
          other : (s : Bytes) → (i : ℕ) × (id_of W s ≡ Some i) × Contains before i → id_of W s ≡ Some j → ⊥
          other s q e = k (subst (Contains before) (let p : Some q.0 ≡ Some j = sym q.1 ∙ e in let r : q.0 ≡ j = cc in r) q.2)

      below : EachOf (IsBelow (length made)) above
      below = to_numbers W n c f (IsBelow (length made)) tt (EachOf-map one (supers c) (next.above c f))
        where
          one : (s : Bytes) → (i : ℕ) × (id_of W s ≡ Some i) × Contains before i → IsBelow (length made) (id_of W s)
          one s q = subst (IsBelow (length made)) (sym q.1) (let l = (id_of-Some W s q.0 q.1).0 in let e = m.count in omega (arith, e, l))

      marked : get_or made n false ≡ true → IsMarking W before (with_marks made above)
      marked due = record {
        count = marks-length made above ∙ m.count;
        object = still-marked made (with_marks made above) stays (id_of W object_name) m.object;
        standing = λ j l h. stays j (m.standing j l h);
        sound = marks-sound made above m.sound (to_numbers W n c f HasRows tt (EachOf-map rows-numbered (supers c) (rows-up W side (name_at W n) c f next.loads (m.sound n next.within due))));
        closed = λ j l h k d. go j l h k d (cases_eq j n);
      }
        where
          go : (j : ℕ) → j < size W → load_fault W (name_at W j) ≡ None → (Contains before j → ⊥) → get_or (with_marks made above) j false ≡ true → (j ≡ n) ⊎ (j ≡ n → ⊥) → EachOf (IsMarked (with_marks made above)) (numbers_above W j)
          go j l h k d (inl i) = subst (λ (t : ℕ). EachOf (IsMarked (with_marks made above)) (numbers_above W t)) (sym i) (marks-there made above below)
          go j l h k d (inr i) = EachOf-map (still-marked made (with_marks made above) stays) (numbers_above W j) (m.closed j l h (left j i k) (sym (unchanged j k) ∙ d))

      pub marking-goes : IsMarking W before (marks_from W made n)
      marking-goes = go (get_or made n false) refl
        where
          go : (b : Bool) → get_or made n false ≡ b → IsMarking W before (cond b (with_marks made above) made)
          go true e = marked e
          go false e = passed e

    -- in the loop
    pub marking-on : (order : List ℕ) → IsLoadOrder W order → (i at n : ℕ) → i < length order → at ≡ length order - 1 - i → n ≡ get_or order at n → (made now : List Bool) → now ≡ marks_from W made n
        → IsMarking W (take (length order - i) order) made → IsMarking W (take (length order - (i + 1)) order) now
    marking-on order o i at n l a e made now f m =
        let below : at < length order = omega (arith, l, a) in
        let next = next_at W order o.each at n below e in
        let k = class_at W n side.differ next.within in
        let one : length order - i ≡ at + 1 = omega (arith, l, a) in
        let rest : at ≡ length order - (i + 1) = omega (arith, l, a) in
        let up : take (length order - i) order ≡ take at order ++ (n ∷ []) = ap (λ (j : ℕ). take j order) one ∙ take_more order at n below ∙ ap (λ (z : ℕ). take at order ++ (z ∷ [])) (sym e) in
        subst (λ (j : ℕ). IsMarking W (take j order) now) rest
        (subst (IsMarking W (take at order)) (sym f) (marking-goes (take at order) n next k.facts k.found made (subst (λ (left : List ℕ). IsMarking W left made) up m)))

    -- at the end
    module _ (made : List Bool) (m : IsMarking W [] made) where
      abbrev Marked : Bytes → Type 0
      Marked x = IsMarked made (id_of W x)

      by_number : (x : Bytes) (n : ℕ) → id_of W x ≡ Some n → get_or made n false ≡ true → Marked x
      by_number x n e h = subst (IsMarked made) (sym e) h

      read : (x : Bytes) (n : ℕ) → id_of W x ≡ Some n → Marked x → get_or made n false ≡ true
      read x n e h = subst (IsMarked made) e h

      steps : (x : Bytes) (c : ClassFacts) → find_class W x ≡ Some c → load_fault W x ≡ None → Marked x → EachOf Marked (supers c)
      steps x c f l h =
          let n = number_of W x (ap is_some f) in
          let at = id_of-Some W x n.0 n.1 in
          from_numbers W n.0 c (ap (find_class W) at.1 ∙ f) (IsMarked made) (m.closed n.0 at.0 (ap (load_fault W) at.1 ∙ l) (none n.0) (read x n.0 n.1 h))

      standing_marked : (x : Bytes) → stands_on_release W x ≡ true → Marked x
      standing_marked x h =
          let t = loads-found W x (standing-loads W x h) in
          let n = number_of W x (ap is_some t.1) in
          let at = id_of-Some W x n.0 n.1 in
          by_number x n.0 n.1 (m.standing n.0 at.0 (ap (stands_on_release W) at.1 ∙ h))

      pub marking-ends : made ≡ map (has_rows W) (names W)
      marking-ends = same_lists made (map (has_rows W) (names W)) (m.count ∙ sym (length-map (names W) (has_rows W) ∙ names-length W)) one
        where
          one : (n : ℕ) (d : Bool) → n < length made → get_or made n d ≡ get_or (map (has_rows W) (names W)) n d
          one n d k =
              let l : n < size W = (let e = m.count in omega (arith, e, k)) in
              get_or_default made n d false k
              ∙ both_ways (get_or made n false) (has_rows W (name_at W n)) (m.sound n l)
              (λ h. read (name_at W n) n (id_of-name_at W n side.differ l) (rows_least W Marked steps m.object standing_marked (name_at W n) h))
              ∙ sym (get_or-map (has_rows W) (names W) n [] d (let e = names-length W in omega (arith, e, l)))

-- ---- marks that are read

module _ (W : World) (made : List Bool) (e : made ≡ map (has_rows W) (names W)) where
  pub marks-count : length made ≡ size W
  marks-count = ap (λ (ms : List Bool). length ms) e ∙ length-map (names W) (has_rows W) ∙ names-length W

  pub mark-at : (n i : ℕ) → i ≡ n → n < size W → get_or made i false ≡ has_rows W (name_at W n)
  mark-at n i is l = ap (λ (j : ℕ). get_or made j false) is ∙ ap (λ (ms : List Bool). get_or ms n false) e ∙ get_or-map (has_rows W) (names W) n [] false (let k = names-length W in omega (arith, k, l))

  module _ (order : List ℕ) (o : AreInLoadOrder W order) (at n i : ℕ) (l : at < length order) (f : n ≡ get_or order at n) (is : i ≡ n) where
    within : n < size W
    within = (next_at W order o at n l f).within

    pub mark-below : i < length made
    mark-below = let k = marks-count in let w = within in omega (arith, k, w, is)

    pub mark-read : (b : Bool) → get_or made i false ≡ b → has_rows W (name_at W n) ≡ b
    mark-read b h = sym (mark-at n i is within) ∙ h
