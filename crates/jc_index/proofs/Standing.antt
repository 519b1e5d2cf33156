-- The names of classes as they stand, and the places of classes by their names.
use Rattle.std.proofs.Common.{◌≡◌, ◌≢◌, ℕ, zero, suc, ◌+◌, ◌<◌, ◌≤◌, Bool, true, false, cond, ◌||◌, List, [], ◌∷◌, ◌++◌, length, take, drop, get_or, refl, sym, ◌∙◌, ap, subst, Option, Some, None, arith}
use Rattle.std.specs.Prelude.{is_some, is_none, nat_lt, option_map, slice_get, IsTrue, IfSome}
use Rattle.std.proofs.lemmas.Bool.{ltb-true}
use Rattle.std.proofs.lemmas.Bool.Decides.{nat_tests}
use Rattle.std.proofs.lemmas.List.{append-nil, map-append, drop_all, length-map, map_more, get_or-map, take-map, take_all}
use Rattle.jc_lemmas.proofs.Listed.{each_in}
use Rattle.jc_facts.specs.declared.class_facts.ClassFacts.{ClassFacts}
use Rattle.jc_facts.specs.Names.{Bytes, same, is_name_among}
use Rattle.jc_facts.specs.Options.{and_then}
use Rattle.jc_facts.specs.world.World.{differ_by_name, class_named}
use Rattle.jc_facts.specs.world.Search.{supers}
use Rattle.jc_facts.proofs.Same.{same_is, same_itself}
use Rattle.jc_index.specs.Ids.{names_of, place_of, name_in}
use Rattle.jc_index.specs.steps.Order.{names_at, IsOrder, AreNumbers}
use Rattle.jc_index.specs.steps.PlacesAbove.{place_above, IsAbove}
use Rattle.jc_index.proofs.Numbers.{IsAt, and_true, is_none-None, none_too, some-map, place-at, place-back, place-class, at-in, names_of-length, names_of-rise}
use Rattle.jc_index.proofs.InSide.{class-front}
use Rattle.jc_index.proofs.NumberedNames.{before_place}
use Rattle.jc_index.proofs.Places.{absent, has, order_length}

-- ---- the place of a name

other : (y x : Bytes) → y ≢ x → same y x ≡ false
other y x n = go (same y x) refl
  where
    go : (b : Bool) → same y x ≡ b → b ≡ false
    go true p = absurd (n (same_is y x p))
    go false p = refl

-- where names differ, a name stands at the place at which it is looked up
pub place-apart : (cs : List ClassFacts) (n : ℕ) → IsTrue (differ_by_name cs) → n < length cs → place_of (names_at cs) (get_or (names_at cs) n []) ≡ Some n
unfolding place_of differ_by_name
place-apart [] n d l = absurd (omega arith)
place-apart (c ∷ cs) zero d l = rw (same_itself c.name) refl
place-apart (c ∷ cs) (suc n) d l =
    let k = and_true (is_none (class_named cs c.name)) (differ_by_name cs) d in
    let m : n < length cs = omega arith in
    let inside : n < length (names_at cs) = omega (arith, length-map cs (λ (z : ClassFacts). z.name)) in
    let x : Bytes = get_or (names_at cs) n [] in
    let e : same c.name x ≡ false = other c.name x (each_in (λ y. c.name ≢ y) (names_at cs) x (absent cs c.name (is_none-None (class_named cs c.name) k.0)) (at-in (names_at cs) n inside)) in
    rw (e, place-apart cs n k.1 m) refl

-- the name of the class at a place
pub name-there : (cs : List ClassFacts) (n : ℕ) (c : ClassFacts) → n < length cs → c ≡ get_or cs n c → get_or (names_at cs) n [] ≡ c.name
name-there cs n c l e = get_or-map (λ (z : ClassFacts). z.name) cs n c [] l ∙ ap (λ (z : ClassFacts). z.name) (sym e)

pub name_in-at : (cs : List ClassFacts) (n : ℕ) → n < length cs → name_in cs n ≡ get_or (names_at cs) n []
name_in-at [] n l = absurd (omega arith)
name_in-at (c ∷ cs) zero l = refl
name_in-at (c ∷ cs) (suc n) l = name_in-at cs n (omega arith)

-- a place of the list is one of its classes
pub place-within : (cs : List ClassFacts) (x : Bytes) (n : ℕ) → place_of (names_at cs) x ≡ Some n → n < length cs
place-within cs x n e =
    let a : IsAt (names_at cs) x n = place-at (names_at cs) x n e in
    let below : n < length (names_at cs) = a.within in
    omega (arith, length-map cs (λ (z : ClassFacts). z.name))

-- ---- names that are numbered as they stand

pub new_name : (cs : List ClassFacts) (n : ℕ) (c : ClassFacts) → IsTrue (differ_by_name cs) → n < length cs → c ≡ get_or cs n c → is_name_among (names_at (take n cs)) c.name ≡ false
new_name cs n c d l e =
    let at : place_of (names_at cs) c.name ≡ Some n = subst (λ (x : Bytes). place_of (names_at cs) x ≡ Some n) (name-there cs n c l e) (place-apart cs n d l) in
    ap (λ (ns : List Bytes). is_name_among ns c.name) (sym (take-map (λ (z : ClassFacts). z.name) n cs)) ∙ before_place (names_at cs) c.name n at

pub one_more_name : (cs : List ClassFacts) (n : ℕ) (c : ClassFacts) (names now : List Bytes) (x : Bytes) → n < length cs → c ≡ get_or cs n c → x ≡ c.name → names ≡ names_at (take n cs) → now ≡ names ++ x ∷ [] → now ≡ names_at (take (n + 1) cs)
one_more_name cs n c names now x l e f h q =
    q ∙ ap (λ (ns : List Bytes). ns ++ x ∷ []) h ∙ ap (λ (y : Bytes). names_at (take n cs) ++ y ∷ []) f
    ∙ ap (λ (z : ClassFacts). names_at (take n cs) ++ z.name ∷ []) e ∙ sym (map_more (λ (z : ClassFacts). z.name) cs n c l)

pub all_names : (cs : List ClassFacts) (n : ℕ) (names : List Bytes) → length cs ≤ n → names ≡ names_at (take n cs) → names ≡ names_at cs
all_names cs n names l h = h ∙ ap names_at (take_all n cs l)

-- ---- whether a class is named so

pub among-named : (cs : List ClassFacts) (x : Bytes) → is_name_among (names_at cs) x ≡ is_some (class_named cs x)
unfolding class_named
among-named [] x = refl
among-named (c ∷ cs) x = go (same c.name x) (among-named cs x)
  where
    go : (b : Bool) → is_name_among (names_at cs) x ≡ is_some (class_named cs x) → (b || is_name_among (names_at cs) x) ≡ is_some (cond b (Some c) (class_named cs x))
    go true h = refl
    go false h = h

-- a name has a place exactly where a class has it
pub place-named : (cs : List ClassFacts) (x : Bytes) → is_some (place_of (names_at cs) x) ≡ is_some (class_named cs x)
unfolding place_of class_named
place-named [] x = refl
place-named (c ∷ cs) x = go (same c.name x) (place-named cs x)
  where
    go : (b : Bool) → is_some (place_of (names_at cs) x) ≡ is_some (class_named cs x) → is_some (cond b (Some 0) (option_map suc (place_of (names_at cs) x))) ≡ is_some (cond b (Some c) (class_named cs x))
    go true h = refl
    go false h = some-map suc (place_of (names_at cs) x) ∙ h

-- a name without a place has no number
pub unplaced : (cs : List ClassFacts) (x : Bytes) → place_of (names_at cs) x ≡ None → place_of (names_of cs) x ≡ None
unplaced cs x e = none_too (place_of (names_at cs) x) (place_of (names_of cs) x) (place-named cs x ∙ sym (place-class cs x)) e

-- ---- the places of two lists, one after the other

pub place-first : (xs ys : List Bytes) (x : Bytes) (n : ℕ) → place_of xs x ≡ Some n → place_of (xs ++ ys) x ≡ Some n
unfolding place_of
place-first [] ys x n e = absurd (let clash : None ≡ Some n = e in cc)
place-first (y ∷ xs) ys x n e = go (same y x) e (place-first xs ys x)
  where
    next : (o : Option ℕ) → place_of xs x ≡ o → option_map suc o ≡ Some n → ((m : ℕ) → place_of xs x ≡ Some m → place_of (xs ++ ys) x ≡ Some m) → option_map suc (place_of (xs ++ ys) x) ≡ Some n
    next None p q r = absurd (let clash : None ≡ Some n = q in cc)
    next (Some m) p q r = ap (option_map suc) (r m p) ∙ q

    go : (b : Bool) → cond b (Some 0) (option_map suc (place_of xs x)) ≡ Some n → ((m : ℕ) → place_of xs x ≡ Some m → place_of (xs ++ ys) x ≡ Some m) → cond b (Some 0) (option_map suc (place_of (xs ++ ys) x)) ≡ Some n
    go true q r = q
    go false q r = next (place_of xs x) refl q r

pub place-second : (xs ys : List Bytes) (x : Bytes) → place_of xs x ≡ None → place_of (xs ++ ys) x ≡ option_map (λ n. length xs + n) (place_of ys x)
unfolding place_of
place-second [] ys x e = same_place (place_of ys x)
  where
    same_place : (o : Option ℕ) → o ≡ option_map (λ n. 0 + n) o
    same_place None = refl
    same_place (Some n) = ap Some (let q : n ≡ 0 + n = omega arith in q)
place-second (y ∷ xs) ys x e = go (same y x) e (place-second xs ys x)
  where
    no_place : (o : Option ℕ) → option_map suc o ≡ None → o ≡ None
    no_place None q = refl
    no_place (Some n) q = absurd (let clash : Some (suc n) ≡ None = q in cc)

    further : (o : Option ℕ) → option_map suc (option_map (λ n. length xs + n) o) ≡ option_map (λ n. suc (length xs) + n) o
    further None = refl
    further (Some n) = ap Some (let q : suc (length xs + n) ≡ suc (length xs) + n = omega arith in q)

    go : (b : Bool) → cond b (Some 0) (option_map suc (place_of xs x)) ≡ None → (place_of xs x ≡ None → place_of (xs ++ ys) x ≡ option_map (λ n. length xs + n) (place_of ys x))
        → cond b (Some 0) (option_map suc (place_of (xs ++ ys) x)) ≡ option_map (λ n. suc (length xs) + n) (place_of ys x)
    go true q r = absurd (let clash : Some 0 ≡ None = q in cc)
    go false q r = ap (option_map suc) (r (no_place (place_of xs x) q)) ∙ further (place_of ys x)

-- ---- numbers by places

-- no place stands twice in an order
pub order-apart : (cs : List ClassFacts) (order : List ℕ) → IsTrue (differ_by_name cs) → IsOrder cs order → (i j : ℕ) → i < j → j < length order → get_or order i 0 ≡ get_or order j 0 → i ≡ j
order-apart cs order d o i j l b e =
    let many = order_length cs order o in
    let s : Some i ≡ Some j = sym (at i (omega arith)) ∙ ap (λ (p : ℕ). place_of (names_of cs) (name_in cs p)) e ∙ at j b in
    cc
  where
    at : (n : ℕ) → n < length order → place_of (names_of cs) (name_in cs (get_or order n 0)) ≡ Some n
    at n h =
        let many = order_length cs order o in
        ap (place_of (names_of cs)) (sym (get_or-map (name_in cs) order n 0 [] h) ∙ ap (λ (ns : List Bytes). get_or ns n []) o.named)
        ∙ place-back (names_of cs) n (names_of-rise cs d) (omega arith)

-- the class at a place has the number that is noted there
module _ (cs : List ClassFacts) (order numbers : List ℕ) (d : IsTrue (differ_by_name cs)) (o : IsOrder cs order) (h : (n : ℕ) → n < length order → get_or numbers (get_or order n 0) 0 ≡ n) where
  found : (p : ℕ) → p < length cs → (k : Option ℕ) → place_of (names_of cs) (get_or (names_at cs) p []) ≡ k → is_some k ≡ true → k ≡ Some (get_or numbers p 0)
  found p l None e s = absurd (cc)
  found p l (Some k) e s =
      let x : Bytes = get_or (names_at cs) p [] in
      let a : IsAt (names_of cs) x k = place-at (names_of cs) x k e in
      let many = order_length cs order o in
      let below : k < length order = let b : k < length (names_of cs) = a.within in omega arith in
      let q : ℕ = get_or order k 0 in
      let inside : q < length cs = o.within k 0 below in
      let named : get_or (names_at cs) q [] ≡ x = sym (name_in-at cs q inside) ∙ sym (get_or-map (name_in cs) order k 0 [] below) ∙ ap (λ (ns : List Bytes). get_or ns k []) o.named ∙ a.name in
      let t : Some q ≡ Some p = sym (place-apart cs q d inside) ∙ ap (place_of (names_at cs)) named ∙ place-apart cs p d l in
      let is : q ≡ p = cc in
      ap Some (sym (h k below) ∙ ap (λ (at : ℕ). get_or numbers at 0) is)

  numbered_there : (p : ℕ) → p < length cs → place_of (names_of cs) (get_or (names_at cs) p []) ≡ Some (get_or numbers p 0)
  numbered_there p l =
      let inside : p < length (names_at cs) = omega (arith, length-map cs (λ (z : ClassFacts). z.name)) in
      found p l (place_of (names_of cs) (get_or (names_at cs) p [])) refl
      (place-class cs (get_or (names_at cs) p []) ∙ has cs (get_or (names_at cs) p []) (at-in (names_at cs) p inside))

pub are_numbers : (cs : List ClassFacts) (order numbers : List ℕ) → IsTrue (differ_by_name cs) → IsOrder cs order → length numbers ≡ length order
    → ((n : ℕ) → n < length order → get_or numbers (get_or order n 0) 0 ≡ n) → AreNumbers cs numbers
are_numbers cs order numbers d o m h = record {
  count = m ∙ order_length cs order o ∙ names_of-length cs;
  each = numbered_there cs order numbers d o h;
}

-- what was lent and is given back
pub lent_back : {A : Type 0} (len : ℕ) (new items : List A) → length new ≡ length items → len ≡ length items → take len (new ++ drop (length new) items) ≡ new
lent_back {A = A} len new items e l =
    ap (take len) (ap (λ (xs : List A). new ++ xs) (drop_all (length new) items (omega arith)) ∙ append-nil new) ∙ take_all len new (omega arith)

pub place-below : (cs : List ClassFacts) (x : Bytes) (o : Option ℕ) → o ≡ place_of (names_at cs) x → IfSome o (λ p. p < length cs)
place-below cs x None e = tt
place-below cs x (Some n) e = place-within cs x n (sym e)

-- ---- the places of two lists

module _ (platform beside all : List ClassFacts) (v : platform ++ beside ≡ all) where
  both-names : names_at platform ++ names_at beside ≡ names_at all
  both-names = sym (map-append (λ (c : ClassFacts). c.name) platform beside) ∙ ap names_at v

  pub place-platform : (x : Bytes) (n : ℕ) → place_of (names_at platform) x ≡ Some n → Some n ≡ place_of (names_at all) x
  place-platform x n e = sym (place-first (names_at platform) (names_at beside) x n e) ∙ ap (λ (ns : List Bytes). place_of ns x) both-names

  pub place-beside : (x : Bytes) (o : Option ℕ) → place_of (names_at platform) x ≡ None → place_of (names_at beside) x ≡ o → option_map (λ n. length platform + n) o ≡ place_of (names_at all) x
  place-beside x o none e =
      ap (option_map (λ n. length platform + n)) (sym e)
      ∙ ap (λ (k : ℕ). option_map (λ n. k + n) (place_of (names_at beside) x)) (sym (length-map platform (λ (c : ClassFacts). c.name)))
      ∙ sym (place-second (names_at platform) (names_at beside) x none) ∙ ap (λ (ns : List Bytes). place_of ns x) both-names

  -- the place that the platform keeps of a name above one of its classes
  pub kept-place : (place at : ℕ) (x : Bytes) (o : Option ℕ) → IsAbove all place at x → nat_lt place (length platform) ≡ true → o ≡ place_above platform place at → place_of (names_at platform) x ≡ o
  unfolding and_then
  kept-place place at x o a l e =
      let below : place < length platform = ltb-true place (length platform) l in
      let there : slice_get platform place ≡ Some a.class = sym (class-front platform beside place below) ∙ ap (λ (cs : List ClassFacts). slice_get cs place) v ∙ a.there in
      sym (e ∙ ap (and_then (λ c. and_then (place_of (names_at platform)) (slice_get (supers c) at))) there ∙ ap (and_then (place_of (names_at platform))) a.named)

-- ---- the first classes of a list

-- whether there is a place, and it is one of the first n
abbrev pub is_before : ℕ → Option ℕ → Bool
is_before n None = false
is_before n (Some place) = nat_lt place n

-- one of the first n classes has the name exactly where its place is one of these
pub among_first : (cs : List ClassFacts) (n : ℕ) (x : Bytes) → is_before n (place_of (names_at cs) x) ≡ is_some (class_named (take n cs) x)
unfolding place_of class_named
among_first [] zero x = refl
among_first [] (suc n) x = refl
among_first (c ∷ cs) zero x = none_before (place_of (names_at (c ∷ cs)) x)
  where
    never : (p : ℕ) → nat_lt p 0 ≡ false
    never p = grind (arith, nat_tests)

    none_before : (o : Option ℕ) → is_before 0 o ≡ false
    none_before None = refl
    none_before (Some p) = never p
among_first (c ∷ cs) (suc n) x = go (same c.name x) (among_first cs n x)
  where
    first : nat_lt 0 (suc n) ≡ true
    first = grind (arith, nat_tests)

    less : (p : ℕ) → nat_lt (suc p) (suc n) ≡ nat_lt p n
    less p = grind (arith, nat_tests)

    one_more : (o : Option ℕ) → is_before (suc n) (option_map suc o) ≡ is_before n o
    one_more None = refl
    one_more (Some p) = less p

    go : (b : Bool) → is_before n (place_of (names_at cs) x) ≡ is_some (class_named (take n cs) x)
        → is_before (suc n) (cond b (Some 0) (option_map suc (place_of (names_at cs) x))) ≡ is_some (cond b (Some c) (class_named (take n cs) x))
    go true h = first
    go false h = one_more (place_of (names_at cs) x) ∙ h
