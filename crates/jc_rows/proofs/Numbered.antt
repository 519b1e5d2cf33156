-- Keys and their numbers.
use Rattle.std.proofs.Common.{◌≡◌, ℕ, ◌<◌, ◌≤◌, Bool, arith, ◌⊎◌, inl, inr, suc, zero, true, false, List, [], ◌∷◌, length, get_or, refl, sym, ◌∙◌, ap, subst, Option, Some, None}
use Rattle.std.specs.Prelude.{slice_get, ◌||◌, cond, is_some}
use Rattle.std.specs.List.{list_any, IsDistinct, position, position_or_len, AllByRecursion}
use Rattle.std.proofs.lemmas.List.Sums.{fails_before_first}
use Rattle.std.proofs.lemmas.Bool.{or_left, or_right, lt-ltb, cases_lt}
use Rattle.std.proofs.lemmas.List.Quantifiers.{position-Some}
use Rattle.std.proofs.lemmas.Option.{slice_get-get_or, slice_get_within, get_or_from_slice_get}
use Rattle.jc_facts.specs.declared.key.Key.{Key}
use Rattle.jc_facts.specs.Names.{same_key}
use Rattle.jc_facts.proofs.Same.{key_itself}
use Rattle.jc_index.proofs.HashedKeys.{key_is}
use Rattle.jc_rows.specs.Keys.{IsNumber, AreDistinct}

-- a key stands nowhere in what differs from it
nowhere : (k : Key) (ks : List Key) (n : ℕ) → AllByRecursion (λ y. same_key k y ≡ false) ks → slice_get ks n ≡ Some k → ⊥
nowhere k [] n a e = let c : None ≡ Some k = e in cc
nowhere k (x ∷ ks) zero a e = let c : Some x ≡ Some k = e in let q : x ≡ k = cc in let t : true ≡ false = sym (key_itself k) ∙ sym (ap (same_key k) q) ∙ a.0 in cc
nowhere k (x ∷ ks) (suc n) a e = nowhere k ks n a.1 e

pub distinct : (ks : List Key) → IsDistinct same_key ks → AreDistinct ks
unfolding IsDistinct
distinct [] d n m k e f = absurd (let c : None ≡ Some k = e in cc)
distinct (x ∷ ks) d zero zero k e f = refl
distinct (x ∷ ks) d zero (suc m) k e f = absurd (let c : Some x ≡ Some k = e in let q : x ≡ k = cc in nowhere k ks m (subst (λ (j : Key). AllByRecursion (λ y. same_key j y ≡ false) ks) q d.0) f)
distinct (x ∷ ks) d (suc n) zero k e f = absurd (let c : Some x ≡ Some k = f in let q : x ≡ k = cc in nowhere k ks n (subst (λ (j : Key). AllByRecursion (λ y. same_key j y ≡ false) ks) q d.0) e)
distinct (x ∷ ks) d (suc n) (suc m) k e f = ap suc (distinct ks d.1 n m k e f)

-- where none has a place, none passes
all_fail : (p : Key → Bool) (ks : List Key) → position p ks ≡ None → (n : ℕ) (d : Key) → n < length ks → p (get_or ks n d) ≡ false
all_fail p ks e n d l = fails_before_first p ks n d (go (cases_lt (position_or_len p ks) (length ks)))
  where
    go : (position_or_len p ks < length ks) ⊎ (length ks ≤ position_or_len p ks) → n < position_or_len p ks
    go (inl b) = absurd (let c : Some (position_or_len p ks) ≡ None = sym (ap (λ (t : Bool). cond t (Some (position_or_len p ks)) None) (lt-ltb (position_or_len p ks) (length ks) b)) ∙ e in cc)
    go (inr b) = omega (arith, l, b)

pub numbered : (ks : List Key) (k : Key) (o : Option ℕ) → o ≡ position (same_key k) ks → IsNumber ks k o
numbered ks k None e = λ n f.
    let t : true ≡ false = sym (key_itself k) ∙ ap (same_key k) (sym (get_or_from_slice_get ks n k k f)) ∙ all_fail (same_key k) ks (sym e) n k (slice_get_within ks n k f) in
    cc
numbered ks k (Some i) e =
    let p = position-Some (same_key k) ks i k (sym e) in
    slice_get-get_or ks i k p.0 ∙ ap (λ (j : Key). Some j) (sym (key_is k (get_or ks i k) p.1))

-- ---- a key that has a number is among the keys

at-any : (keys : List Key) (k : Key) (n : ℕ) → slice_get keys n ≡ Some k → list_any (same_key k) keys ≡ true
at-any [] k n e = absurd (let c : None ≡ Some k = e in cc)
at-any (x ∷ xs) k zero e = or_left (same_key k x) (list_any (same_key k) xs) (let c : Some x ≡ Some k = e in let q : x ≡ k = cc in ap (same_key k) q ∙ key_itself k)
at-any (x ∷ xs) k (suc n) e = or_right (same_key k x) (list_any (same_key k) xs) (at-any xs k n e)

none-any : (keys : List Key) (k : Key) → ((n : ℕ) → slice_get keys n ≡ Some k → ⊥) → list_any (same_key k) keys ≡ false
none-any [] k h = refl
none-any (x ∷ xs) k h = go (same_key k x) refl (none-any xs k (λ n e. h (suc n) e))
  where
    go : (b : Bool) → same_key k x ≡ b → list_any (same_key k) xs ≡ false → (b || list_any (same_key k) xs) ≡ false
    go true e r = absurd (h zero (ap (λ (j : Key). Some j) (sym (key_is k x e))))
    go false e r = r

pub number-known : (keys : List Key) (k : Key) (o : Option ℕ) → IsNumber keys k o → is_some o ≡ list_any (same_key k) keys
number-known keys k None h = sym (none-any keys k h)
number-known keys k (Some n) h = sym (at-any keys k n h)

-- and a key that is among them has a number
pub placed : (keys : List Key) (k : Key) → list_any (same_key k) keys ≡ true → (n : ℕ) × (slice_get keys n ≡ Some k)
placed [] k h = absurd (cc)
placed (x ∷ xs) k h = go (same_key k x) refl h (placed xs k)
  where
    go : (b : Bool) → same_key k x ≡ b → (b || list_any (same_key k) xs) ≡ true → (list_any (same_key k) xs ≡ true → (n : ℕ) × (slice_get xs n ≡ Some k)) → (n : ℕ) × (slice_get (x ∷ xs) n ≡ Some k)
    go true e q r = (zero, ap (λ (j : Key). Some j) (sym (key_is k x e)))
    go false e q r = let p = r q in (suc p.0, p.1)
