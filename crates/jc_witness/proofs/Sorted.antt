-- What is sorted by name is in byte order of names.
use Rattle.std.proofs.Common.{◌≡◌, Bool, true, false, cond, List, [], ◌∷◌, sym, subst, ◌⊎◌, inl, inr}
use Rattle.std.specs.List.{Contains}
use Rattle.std.specs.List.Sorted.{IsPermutation, IsSortedBy}
use Rattle.std.specs.Ordering.{is_lt}
use Rattle.std.proofs.lemmas.List.Sorted.{Contains-permutation, IsPermutation-refl, IsPermutation-sym, IsPermutation-trans, IsPermutation-cons, IsPermutation-middle}
use Rattle.jc_facts.specs.Names.{Bytes}
use Rattle.jc_facts.specs.ByName.{placed, by_name}
use Rattle.jc_facts.specs.Exactly.{Before, NamesRise, Rises, name_order}
use Rattle.jc_facts.proofs.Apart.{ApartRec, rec-Apart, Apart-permutation, NamesRise-sorted}
use Rattle.jc_facts.proofs.OneList.{not_self, same_list}
use Rattle.jc_lemmas.proofs.Listed.{EachOf-map, cases, each_in, none}

module _ {A : Type 0} (name : A → Bytes) where
  -- ---- what is placed by name stands there as before

  placed-permutation : (x : A) (ys : List A) → IsPermutation (x ∷ ys) (placed name x ys)
  unfolding placed
  placed-permutation x [] = IsPermutation-refl (x ∷ [])
  placed-permutation x (y ∷ ys) = go (is_lt (name_order (name y) (name x))) (placed-permutation x ys)
    where
      go : (b : Bool) → IsPermutation (x ∷ ys) (placed name x ys) → IsPermutation (x ∷ y ∷ ys) (cond b (y ∷ placed name x ys) (x ∷ y ∷ ys))
      go true r =
          IsPermutation-trans (x ∷ y ∷ ys) (y ∷ x ∷ ys) (y ∷ placed name x ys) (IsPermutation-sym (y ∷ x ∷ ys) (x ∷ y ∷ ys) (IsPermutation-middle (y ∷ []) x ys))
          (IsPermutation-cons y (x ∷ ys) (placed name x ys) r)
      go false r = IsPermutation-refl (x ∷ y ∷ ys)

  by_name-permutation : (xs : List A) → IsPermutation xs (by_name name xs)
  unfolding by_name
  by_name-permutation [] = IsPermutation-refl []
  by_name-permutation (x ∷ xs) = IsPermutation-trans (x ∷ xs) (x ∷ by_name name xs) (placed name x (by_name name xs)) (IsPermutation-cons x xs (by_name name xs) (by_name-permutation xs)) (placed-permutation x (by_name name xs))

  -- ---- names that rise differ

  rising-apart : (xs : List A) → NamesRise name xs → ApartRec name xs
  unfolding Rises
  rising-apart [] r = tt
  rising-apart (x ∷ xs) r = (EachOf-map (λ y before is. not_self (name y) (subst (λ (z : Bytes). Before z (name y)) is before)) xs r.0, rising-apart xs r.1)

  -- of rising names each is one element's
  pub one_of_name : (xs : List A) (x y : A) → NamesRise name xs → Contains xs x → Contains xs y → name x ≡ name y → x ≡ y
  unfolding Rises
  one_of_name [] x y r c d e = absurd (none x c)
  one_of_name (z ∷ zs) x y r c d e = go (cases z zs x c) (cases z zs y d) (λ k l. one_of_name zs x y r.1 k l e)
    where
      later : (w v : A) → z ≡ w → Contains zs v → name w ≡ name v → ⊥
      later w v is k q = not_self (name v) (subst (λ (n : Bytes). Before n (name v)) q (subst (λ (u : A). Before (name u) (name v)) is (each_in (λ u. Before (name z) (name u)) zs v r.0 k)))

      go : (z ≡ x) ⊎ Contains zs x → (z ≡ y) ⊎ Contains zs y → (Contains zs x → Contains zs y → x ≡ y) → x ≡ y
      go (inl p) (inl q) more = cc
      go (inl p) (inr k) more = absurd (later x y p k e)
      go (inr k) (inl q) more = absurd (later y x q k (sym e))
      go (inr k) (inr l) more = more k l

  -- ---- what is sorted

  pub sorted_is : (xs ys : List A) → NamesRise name (by_name name xs) → IsPermutation xs ys → IsSortedBy (λ x y. is_lt (name_order (name x) (name y))) ys → ys ≡ by_name name xs
  sorted_is xs ys r p s = same_list name ys (by_name name xs) rises r (λ z k. Contains-permutation ys (by_name name xs) z (IsPermutation-sym (by_name name xs) ys moved) k) (λ z k. Contains-permutation (by_name name xs) ys z moved k)
    where
      moved : IsPermutation (by_name name xs) ys
      moved = IsPermutation-trans (by_name name xs) xs ys (IsPermutation-sym xs (by_name name xs) (by_name-permutation xs)) p

      rises : NamesRise name ys
      rises = NamesRise-sorted name ys s (Apart-permutation name (by_name name xs) ys moved (rec-Apart name (by_name name xs) (rising-apart (by_name name xs) r)))
