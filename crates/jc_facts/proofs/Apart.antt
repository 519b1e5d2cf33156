-- Lists whose names differ, after a filter and after a sort.
use Rattle.std.proofs.Common.{◌≡◌, ◌≢◌, ℕ, zero, suc, ◌+◌, ◌<◌, Bool, true, false, cond, List, [], ◌∷◌, length, get_or, set, refl, sym, ◌∙◌, ap, subst, arith, eqb, Ordering, ◌⊎◌, inl, inr}
use Rattle.std.proofs.lemmas.Bool.{cases_eq, eq-eqb, ne_eqb}
use Rattle.std.specs.Ordering.{is_eq, ordering_reverse, is_lt, nat_cmp}
use Rattle.std.proofs.lemmas.Bool.Decides.{nat_tests}
use Rattle.std.proofs.lemmas.List.{get_or-set_same, get_or-set_other, length-set, get_or_default}
use Rattle.std.proofs.lemmas.List.Sorted.{IsPermutation-keeps, sorted_far, ranks_by}
use Rattle.std.proofs.lemmas.List.Elements.{recursion_from_All}
use Rattle.std.proofs.lemmas.Cmp.{nat_list_cmp_total}
use Rattle.std.specs.List.{swap}
use Rattle.std.specs.List.Sorted.{IsPermutation, IsSortedBy}
use Rattle.std.specs.declared.cmp.Ordering.TheVariants.{Less, Equal, Greater}
use Rattle.std.specs.Cmp.Lexicographic.{slice_cmp}
use Rattle.std.proofs.lemmas.Map.Text.{is_eq-slice_cmp}
use Rattle.jc_facts.specs.Names.{Bytes}
use Rattle.jc_facts.specs.Exactly.{Before, NamesRise, Rises}
use Rattle.jc_lemmas.proofs.Listed.{EachOf}
use Rattle.jc_facts.proofs.Same.{same_is}
use Rattle.std.proofs.lemmas.List.Edits.{length-swap}

-- no two places have one name
abbrev pub Apart : {A : Type 0} → (A → Bytes) → List A → Type 0
Apart {A} name xs = (i j : ℕ) (d : A) → i ≢ j → i < length xs → j < length xs → name (get_or xs i d) ≢ name (get_or xs j d)

-- the place from which a swap of i and j takes what it puts at p
moved : ℕ → ℕ → ℕ → ℕ
moved i j p = cond (eqb p j) i (cond (eqb p i) j p)

moved-apart : (i j p q : ℕ) → p ≢ q → moved i j p ≢ moved i j q
unfolding moved
moved-apart i j p q h = grind (arith, nat_tests)

moved-below : (i j p n : ℕ) → i < n → j < n → p < n → moved i j p < n
unfolding moved
moved-below i j p n hi hj hp = grind (arith, nat_tests)

swap_at : {A : Type 0} (xs : List A) (i j p : ℕ) (d : A) → i < length xs → j < length xs → p < length xs → get_or (swap xs i j) p d ≡ get_or xs (moved i j p) d
unfolding moved
swap_at [] i j p d hi hj hp = absurd (omega arith)
swap_at {A} (x ∷ xs) i j p d hi hj hp = go (cases_eq p j) (cases_eq p i)
  where
    l : List A
    l = x ∷ xs

    inner : List A
    inner = set l i (get_or l j x)

    long : j < length inner
    long = rw length-set hj

    go : (p ≡ j) ⊎ (p ≡ j → ⊥) → (p ≡ i) ⊎ (p ≡ i → ⊥) → get_or (set inner j (get_or l i x)) p d ≡ get_or l (cond (eqb p j) i (cond (eqb p i) j p)) d
    go (inl e) w =
        let a : eqb p j ≡ true = eq-eqb p j e in
        rw a (ap (λ q. get_or (set inner j (get_or l i x)) q d) e ∙ get_or-set_same inner j (get_or l i x) d long ∙ get_or_default l i x d hi)
    go (inr f) (inl e) =
        let a : eqb p j ≡ false = ne_eqb p j f in
        let b : eqb p i ≡ true = eq-eqb p i e in
        rw (a, b) (get_or-set_other inner j p (get_or l i x) d f ∙ ap (λ q. get_or inner q d) e ∙ get_or-set_same l i (get_or l j x) d hi ∙ get_or_default l j x d hj)
    go (inr f) (inr g) =
        let a : eqb p j ≡ false = ne_eqb p j f in
        let b : eqb p i ≡ false = ne_eqb p i g in
        rw (a, b) (get_or-set_other inner j p (get_or l i x) d f ∙ get_or-set_other l i p (get_or l j x) d g)

Apart-swap : {A : Type 0} (name : A → Bytes) (xs : List A) (i j : ℕ) → i < length xs → j < length xs → Apart name xs → Apart name (swap xs i j)
Apart-swap name xs i j hi hj a p q d n hp hq e =
    let lp : p < length xs = rw (length-swap xs i j) at hp in
    let lq : q < length xs = rw (length-swap xs i j) at hq in
    a (moved i j p) (moved i j q) d (moved-apart i j p q n) (moved-below i j p (length xs) hi hj lp) (moved-below i j q (length xs) hi hj lq)
    (ap name (sym (swap_at xs i j p d hi hj lp)) ∙ e ∙ ap name (swap_at xs i j q d hi hj lq))

pub Apart-permutation : {A : Type 0} (name : A → Bytes) (xs ys : List A) → IsPermutation xs ys → Apart name xs → Apart name ys
Apart-permutation name xs ys p a = IsPermutation-keeps xs (Apart name) a (λ l i j hi hj h. Apart-swap name l i j hi hj h) ys p

-- the same by recursion
abbrev pub ApartRec : {A : Type 0} → (A → Bytes) → List A → Type 0
ApartRec name [] = Unit {0}
ApartRec name (x ∷ xs) = EachOf (λ y. name x ≢ name y) xs × ApartRec name xs

pub each_at : {A : Type 0} (P : A → Type 0) (xs : List A) (i : ℕ) (d : A) → i < length xs → EachOf P xs → P (get_or xs i d)
each_at P [] i d h e = absurd (omega arith)
each_at P (x ∷ xs) zero d h e = e.0
each_at P (x ∷ xs) (suc i) d h e = each_at P xs i d (omega arith) e.1

pub rec-Apart : {A : Type 0} (name : A → Bytes) (xs : List A) → ApartRec name xs → Apart name xs
rec-Apart name [] a i j d n hi hj = absurd (omega arith)
rec-Apart name (x ∷ xs) a zero zero d n hi hj = absurd (n refl)
rec-Apart name (x ∷ xs) a zero (suc j) d n hi hj = each_at (λ y. name x ≢ name y) xs j d (omega arith) a.0
rec-Apart name (x ∷ xs) a (suc i) zero d n hi hj = λ e. each_at (λ y. name x ≢ name y) xs i d (omega arith) a.0 (sym e)
rec-Apart name (x ∷ xs) a (suc i) (suc j) d n hi hj = rec-Apart name xs a.1 i j d (λ e. n (ap suc e)) (omega arith) (omega arith)

-- sorted, and apart: rising
pub NamesRise-sorted : {A : Type 0} (name : A → Bytes) (xs : List A) → IsSortedBy (λ x y. is_lt (slice_cmp nat_cmp (name x) (name y))) xs → Apart name xs → NamesRise name xs
unfolding Rises
NamesRise-sorted name [] s a = tt
NamesRise-sorted {A} name (x ∷ xs) s a = (recursion_from_All (λ y. Before (name x) (name y)) xs first, NamesRise-sorted name xs rest (λ i j d n hi hj. a (suc i) (suc j) d (omega arith) (omega arith) (omega arith)))
  where
    lt : A → A → Bool
    lt p q = is_lt (slice_cmp nat_cmp (name p) (name q))

    rest : IsSortedBy lt xs
    rest k d l h = let e : suc k + 1 ≡ suc (k + 1) = omega arith in subst (λ j. lt (get_or (x ∷ xs) j d) (get_or xs k d) ≡ false) e (s (suc k) d (omega arith) (omega arith))

    less : (y : A) (o : Ordering) → slice_cmp nat_cmp (name x) (name y) ≡ o → lt y x ≡ false → (name x ≢ name y) → o ≡ Less
    less y Less e f n = refl
    less y Equal e f n = absurd (n (same_is (name x) (name y) (sym (is_eq-slice_cmp (name x) (name y)) ∙ ap is_eq e)))
    less y Greater e f n =
        let q : slice_cmp nat_cmp (name y) (name x) ≡ Less = nat_list_cmp_total.antisymm (name y) (name x) ∙ ap ordering_reverse e in
        absurd (let r : lt y x ≡ true = ap is_lt q in cc)

    first : (k : ℕ) (d : A) → k < length xs → Before (name x) (name (get_or xs k d))
    first k d h = less (get_or xs k d) (slice_cmp nat_cmp (name x) (name (get_or xs k d))) refl
        (sorted_far lt (ranks_by nat_list_cmp_total name) (x ∷ xs) s zero (suc k) d (omega arith) (omega arith))
        (a zero (suc k) d (omega arith) (omega arith) (omega arith))
