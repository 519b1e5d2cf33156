-- The places of classes, in byte order of their names.
use Rattle.std.proofs.Common.{◌≡◌, ◌≢◌, ℕ, zero, suc, ◌+◌, ◌<◌, Bool, true, false, cond, List, [], ◌∷◌, ◌++◌, length, map, take, get_or, refl, sym, ◌∙◌, ap, subst, Some, None, ◌⊎◌, inl, inr, arith}
use Rattle.std.specs.Prelude.{is_some, is_none, IsTrue, nat_lt, slice_get}
use Rattle.std.specs.List.{Contains, All}
use Rattle.std.specs.List.Sorted.{IsPermutation, IsSortedBy}
use Rattle.std.specs.Ordering.{is_lt}
use Rattle.std.proofs.lemmas.Bool.Decides.{nat_tests}
use Rattle.std.proofs.lemmas.List.{length-map, map_push, map_more, get_or-map}
use Rattle.std.proofs.lemmas.Option.{slice_get_read}
use Rattle.std.proofs.lemmas.List.Elements.{All-push, All-map, All-weaker, recursion_from_All}
use Rattle.std.proofs.lemmas.List.Sorted.{All-permutation, Contains-permutation, IsPermutation-map, IsPermutation-sym, IsPermutation-refl, IsPermutation-trans, IsPermutation-cons, IsPermutation-middle}
use Rattle.jc_facts.specs.declared.class_facts.ClassFacts.{ClassFacts}
use Rattle.jc_facts.specs.Names.{Bytes, same}
use Rattle.jc_facts.specs.Exactly.{name_order, Rises}
use Rattle.jc_facts.specs.Exactly.{Before, NamesRise}
use Rattle.jc_facts.specs.world.World.{class_named, differ_by_name}
use Rattle.jc_lemmas.proofs.Listed.{EachOf, here, there, none, cases}
use Rattle.jc_facts.proofs.OneList.{same_list}
use Rattle.jc_facts.proofs.Apart.{Apart, ApartRec, rec-Apart, Apart-permutation, NamesRise-sorted}
use Rattle.jc_facts.proofs.Same.{same_is, same_itself}
use Rattle.jc_index.specs.Ids.{insert, names_of, name_or, name_in}
use Rattle.jc_index.specs.steps.Order.{names_at, IsPlace, IsOrder}
use Rattle.jc_index.proofs.Numbers.{is_none-None, and_true, named-in, in-named, names_of-rise}

pub order_length : (cs : List ClassFacts) (order : List ℕ) → IsOrder cs order → length order ≡ length (names_of cs)
order_length cs order o = sym (length-map order (name_in cs)) ∙ ap length o.named

-- ---- the names as they stand

pub absent : (cs : List ClassFacts) (x : Bytes) → class_named cs x ≡ None → EachOf (λ y. x ≢ y) (names_at cs)
unfolding class_named
absent [] x e = tt
absent (c ∷ cs) x e = go (same c.name x) refl e (absent cs x)
  where
    go : (b : Bool) → same c.name x ≡ b → cond b (Some c) (class_named cs x) ≡ None → (class_named cs x ≡ None → EachOf (λ y. x ≢ y) (names_at cs)) → EachOf (λ y. x ≢ y) (names_at (c ∷ cs))
    go true p q r = absurd (let clash : Some c ≡ None = q in cc)
    go false p q r = (λ is. let k : same c.name x ≡ true = ap (λ (z : Bytes). same c.name z) is ∙ same_itself c.name in absurd (cc), r q)

apart : (cs : List ClassFacts) → IsTrue (differ_by_name cs) → ApartRec (λ (z : Bytes). z) (names_at cs)
unfolding differ_by_name
apart [] h = tt
apart (c ∷ cs) h =
    let k = and_true (is_none (class_named cs c.name)) (differ_by_name cs) h in
    (absent cs c.name (is_none-None (class_named cs c.name) k.0), apart cs k.1)

pub stands : (cs : List ClassFacts) (x : Bytes) → is_some (class_named cs x) ≡ true → Contains (names_at cs) x
unfolding class_named
stands [] x h = absurd (cc)
stands (c ∷ cs) x h = go (same c.name x) refl h (stands cs x)
  where
    go : (b : Bool) → same c.name x ≡ b → is_some (cond b (Some c) (class_named cs x)) ≡ true → (is_some (class_named cs x) ≡ true → Contains (names_at cs) x) → Contains (c.name ∷ names_at cs) x
    go true p q r = subst (λ (z : Bytes). Contains (c.name ∷ names_at cs) z) (same_is c.name x p) (here c.name (names_at cs))
    go false p q r = there x c.name (names_at cs) (r q)

pub has : (cs : List ClassFacts) (x : Bytes) → Contains (names_at cs) x → is_some (class_named cs x) ≡ true
unfolding class_named
has [] x k = absurd (none x k)
has (c ∷ cs) x k = go (cases c.name (names_at cs) x k) (has cs x)
  where
    some : (b : Bool) → is_some (class_named cs x) ≡ true → is_some (cond b (Some c) (class_named cs x)) ≡ true
    some true h = refl
    some false h = h

    go : (c.name ≡ x) ⊎ Contains (names_at cs) x → (Contains (names_at cs) x → is_some (class_named cs x) ≡ true) → is_some (cond (same c.name x) (Some c) (class_named cs x)) ≡ true
    go (inl is) r = let q : same c.name x ≡ true = ap (λ (z : Bytes). same c.name z) (sym is) ∙ same_itself c.name in rw q refl
    go (inr d) r = some (same c.name x) (r d)

-- one more class is placed
pub one_more : (cs : List ClassFacts) (ps qs : List (Bytes × ℕ)) (at : ℕ) (c : ClassFacts) → at < length cs → c ≡ get_or cs at c → qs ≡ ps ++ (c.name, at) ∷ []
    → (map (λ p. p.0) ps ≡ names_at (take at cs)) × All (IsPlace cs) ps → (map (λ p. p.0) qs ≡ names_at (take (at + 1) cs)) × All (IsPlace cs) qs
one_more cs ps qs at c l is e h = (
  ap (map (λ (p : Bytes × ℕ). p.0)) e ∙ map_push (λ (p : Bytes × ℕ). p.0) ps (c.name, at) ∙ ap (λ (xs : List Bytes). xs ++ c.name ∷ []) h.0
      ∙ ap (λ (z : ClassFacts). names_at (take at cs) ++ z.name ∷ []) is ∙ sym (map_more (λ (z : ClassFacts). z.name) cs at c l),
  subst (λ (xs : List (Bytes × ℕ)). All (IsPlace cs) xs) (sym e) (All-push (IsPlace cs) ps (c.name, at) h.1 (l, ap name_or (slice_get_read cs (length cs) at c refl l is))),
)

-- ---- the names in order

rises-map : {A : Type 0} (f : A → Bytes) (xs : List A) → NamesRise f xs → NamesRise (λ (z : Bytes). z) (map f xs)
unfolding Rises
rises-map f [] r = tt
rises-map {A} f (x ∷ xs) r = (each xs r.0, rises-map f xs r.1)
  where
    each : (ys : List A) → EachOf (λ y. Before (f x) (f y)) ys → EachOf (λ z. Before (f x) z) (map f ys)
    each [] h = tt
    each (y ∷ ys) h = (h.0, each ys h.1)

-- the names in order are those that stand, where they rise
in_order : (cs : List ClassFacts) (ys : List Bytes) → IsTrue (differ_by_name cs) → IsPermutation (names_at cs) ys → NamesRise (λ (z : Bytes). z) ys → ys ≡ names_of cs
in_order cs ys d p r =
    same_list (λ (z : Bytes). z) ys (names_of cs) r (names_of-rise cs d)
    (λ z k. named-in cs z (has cs z (Contains-permutation ys (names_at cs) z (IsPermutation-sym (names_at cs) ys p) k)))
    (λ z k. Contains-permutation (names_at cs) ys z p (stands cs z (in-named cs z k)))

named : (cs : List ClassFacts) (ps : List (Bytes × ℕ)) → EachOf (IsPlace cs) ps → map (name_in cs) (map (λ p. p.1) ps) ≡ map (λ p. p.0) ps
named cs [] h = refl
named cs (p ∷ ps) h = ap (λ (x : Bytes). x ∷ map (name_in cs) (map (λ p. p.1) ps)) h.0.1 ∙ ap (λ (xs : List Bytes). p.0 ∷ xs) (named cs ps h.1)

-- the names in byte order are those that stand
insert-permutation : (x : Bytes) (ys : List Bytes) → IsPermutation (x ∷ ys) (insert x ys)
unfolding insert
insert-permutation x [] = IsPermutation-refl (x ∷ [])
insert-permutation x (y ∷ ys) = go (is_lt (name_order x y)) (insert-permutation x ys)
  where
    go : (b : Bool) → IsPermutation (x ∷ ys) (insert x ys) → IsPermutation (x ∷ y ∷ ys) (cond b (x ∷ y ∷ ys) (y ∷ insert x ys))
    go true r = IsPermutation-refl (x ∷ y ∷ ys)
    go false r =
        IsPermutation-trans (x ∷ y ∷ ys) (y ∷ x ∷ ys) (y ∷ insert x ys)
        (IsPermutation-sym (y ∷ x ∷ ys) (x ∷ y ∷ ys) (IsPermutation-middle (y ∷ []) x ys))
        (IsPermutation-cons y (x ∷ ys) (insert x ys) r)

pub names-permutation : (cs : List ClassFacts) → IsPermutation (names_at cs) (names_of cs)
unfolding names_of
names-permutation [] = IsPermutation-refl []
names-permutation (c ∷ cs) =
    IsPermutation-trans (c.name ∷ names_at cs) (c.name ∷ names_of cs) (insert c.name (names_of cs))
    (IsPermutation-cons c.name (names_at cs) (names_of cs) (names-permutation cs)) (insert-permutation c.name (names_of cs))

-- no two places have one name
places-apart : (ps : List (Bytes × ℕ)) → Apart (λ (z : Bytes). z) (map (λ p. p.0) ps) → Apart (λ (p : Bytes × ℕ). p.0) ps
places-apart ps a i j d n hi hj e =
    let long = length-map ps (λ (p : Bytes × ℕ). p.0) in
    a i j [] n (omega arith) (omega arith) (get_or-map (λ (p : Bytes × ℕ). p.0) ps i d [] hi ∙ e ∙ sym (get_or-map (λ (p : Bytes × ℕ). p.0) ps j d [] hj))

-- the places of all classes, sorted by their names
pub sorted_order : (cs : List ClassFacts) (ps qs : List (Bytes × ℕ)) → IsTrue (differ_by_name cs) → IsPermutation (names_at cs) (map (λ p. p.0) ps) → All (IsPlace cs) ps
    → IsPermutation ps qs → IsSortedBy (λ x y. is_lt (name_order x.0 y.0)) qs → IsOrder cs (map (λ p. p.1) qs)
sorted_order cs ps qs d e all p s = record {
  within = All-map (λ at. at < length cs) (λ (p : Bytes × ℕ). p.1) qs (All-weaker (IsPlace cs) (λ p. p.1 < length cs) (λ p h. h.0) qs places);
  named = named cs qs (recursion_from_All (IsPlace cs) qs places) ∙ in_order cs (map (λ p. p.0) qs) d moved (rises-map (λ (p : Bytes × ℕ). p.0) qs (NamesRise-sorted (λ (p : Bytes × ℕ). p.0) qs s far));
}
  where
    places : All (IsPlace cs) qs
    places = All-permutation (IsPlace cs) ps qs p all

    moved : IsPermutation (names_at cs) (map (λ p. p.0) qs)
    moved = IsPermutation-trans (names_at cs) (map (λ p. p.0) ps) (map (λ p. p.0) qs) e (IsPermutation-map (λ (p : Bytes × ℕ). p.0) ps qs p)

    far : Apart (λ (p : Bytes × ℕ). p.0) qs
    far = places-apart qs (Apart-permutation (λ (z : Bytes). z) (names_at cs) (map (λ p. p.0) qs) moved (rec-Apart (λ (z : Bytes). z) (names_at cs) (apart cs d)))

-- ---- the class of a place

-- where names differ, the class of a place is the one that its name finds
pub found_there : (cs : List ClassFacts) (at : ℕ) (c : ClassFacts) → IsTrue (differ_by_name cs) → slice_get cs at ≡ Some c → class_named cs c.name ≡ Some c
unfolding class_named differ_by_name
found_there [] at c d e = absurd (let clash : None ≡ Some c = e in cc)
found_there (b ∷ cs) zero c d e =
    let q : b ≡ c = cc in
    subst (λ (z : ClassFacts). cond (same b.name z.name) (Some b) (class_named cs z.name) ≡ Some z) q (rw (same_itself b.name) refl)
found_there (b ∷ cs) (suc at) c d e = go (same b.name c.name) refl (found_there cs at c k.1 e)
  where
    k : (is_none (class_named cs b.name) ≡ true) × (differ_by_name cs ≡ true)
    k = and_true (is_none (class_named cs b.name)) (differ_by_name cs) d

    go : (t : Bool) → same b.name c.name ≡ t → class_named cs c.name ≡ Some c → cond t (Some b) (class_named cs c.name) ≡ Some c
    go true p r = absurd (let clash : None ≡ Some c = sym (is_none-None (class_named cs b.name) k.0) ∙ ap (class_named cs) (same_is b.name c.name p) ∙ r in cc)
    go false p r = r

-- the first p classes have the name exactly where its place is one of the first p
pub in_front : (cs : List ClassFacts) (p at : ℕ) (c : ClassFacts) → IsTrue (differ_by_name cs) → slice_get cs at ≡ Some c → nat_lt at p ≡ is_some (class_named (take p cs) c.name)
unfolding class_named differ_by_name
in_front cs zero at c d e = none_less at
  where
    none_less : (n : ℕ) → nat_lt n 0 ≡ false
    none_less n = grind (arith, nat_tests)
in_front [] (suc p) at c d e = absurd (let clash : None ≡ Some c = e in cc)
in_front (b ∷ cs) (suc p) zero c d e =
    let q : b ≡ c = cc in
    let same_name : same b.name c.name ≡ true = ap (λ (z : ClassFacts). same b.name z.name) (sym q) ∙ same_itself b.name in
    rw same_name (first p)
  where
    first : (n : ℕ) → nat_lt 0 (suc n) ≡ true
    first n = grind (arith, nat_tests)
in_front (b ∷ cs) (suc p) (suc at) c d e = less at p ∙ in_front cs p at c k.1 e ∙ go (same b.name c.name) refl
  where
    k : (is_none (class_named cs b.name) ≡ true) × (differ_by_name cs ≡ true)
    k = and_true (is_none (class_named cs b.name)) (differ_by_name cs) d

    less : (m n : ℕ) → nat_lt (suc m) (suc n) ≡ nat_lt m n
    less m n = grind (arith, nat_tests)

    go : (t : Bool) → same b.name c.name ≡ t → is_some (class_named (take p cs) c.name) ≡ is_some (cond t (Some b) (class_named (take p cs) c.name))
    go true q = absurd (let clash : None ≡ Some c = sym (is_none-None (class_named cs b.name) k.0) ∙ ap (class_named cs) (same_is b.name c.name q) ∙ found_there cs at c k.1 e in cc)
    go false q = refl
