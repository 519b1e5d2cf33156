-- A rising list is told by what it has.
use Rattle.std.proofs.Common.{◌≡◌, List, [], ◌∷◌, refl, sym, ap, subst, ◌∙◌, ◌⊎◌, inl, inr}
use Rattle.std.specs.List.{Contains}
use Rattle.std.specs.Ordering.{ordering_reverse}
use Rattle.std.specs.Cmp.Lexicographic.{nat_list_cmp_total}
use Rattle.std.specs.declared.cmp.Ordering.TheVariants.{Less, Greater}
use Rattle.std.proofs.lemmas.List.Elements.{All-contains}
use Rattle.jc_facts.specs.Names.{Bytes}
use Rattle.jc_facts.specs.Exactly.{Before, NamesRise, by_names, HasExactly, Rises}
use Rattle.jc_lemmas.proofs.Listed.{here, there, none, cases, each_in}

less_not_greater : Less ≡ Greater → ⊥
less_not_greater e = cc

-- of two names at most one is before the other
pub not_both : (x y : Bytes) → Before x y → Before y x → ⊥
not_both x y h k = less_not_greater (sym h ∙ nat_list_cmp_total.antisymm x y ∙ ap ordering_reverse k)

pub not_self : (x : Bytes) → Before x x → ⊥
not_self x h = not_both x x h h

module _ {A : Type 0} (name : A → Bytes) where
  -- the firsts are one
  first_same : (x : A) (xs : List A) (y : A) (ys : List A) → NamesRise name (x ∷ xs) → NamesRise name (y ∷ ys) → Contains (y ∷ ys) x → Contains (x ∷ xs) y → x ≡ y
  unfolding Rises
  first_same x xs y ys r s c d = go (cases y ys x c) (cases x xs y d)
    where
      go : (y ≡ x) ⊎ Contains ys x → (x ≡ y) ⊎ Contains xs y → x ≡ y
      go (inl is) k = sym is
      go (inr h) (inl is) = is
      go (inr h) (inr k) = absurd (not_both (name y) (name x) (each_in (λ z. Before (name y) (name z)) ys x s.0 h) (each_in (λ z. Before (name x) (name z)) xs y r.0 k))

  -- what the one has beside its first, the other has
  rest_has : (x : A) (xs : List A) (y : A) (ys : List A) → NamesRise name (x ∷ xs) → x ≡ y → ((z : A) → Contains (x ∷ xs) z → Contains (y ∷ ys) z) → (z : A) → Contains xs z → Contains ys z
  unfolding Rises
  rest_has x xs y ys r same all z c = go (cases y ys z (all z (there z x xs c)))
    where
      go : (y ≡ z) ⊎ Contains ys z → Contains ys z
      go (inl is) = absurd (not_self (name x) (subst (λ (w : A). Before (name x) (name w)) (sym (same ∙ is)) (each_in (λ w. Before (name x) (name w)) xs z r.0 c)))
      go (inr k) = k

  rest_rises : (x : A) (xs : List A) → NamesRise name (x ∷ xs) → NamesRise name xs
  unfolding Rises
  rest_rises x xs r = r.1

  pub same_list : (xs ys : List A) → NamesRise name xs → NamesRise name ys → ((z : A) → Contains xs z → Contains ys z) → ((z : A) → Contains ys z → Contains xs z) → xs ≡ ys
  same_list [] [] r s all back = refl
  same_list [] (y ∷ ys) r s all back = absurd (none y (back y (here y ys)))
  same_list (x ∷ xs) [] r s all back = absurd (none x (all x (here x xs)))
  same_list (x ∷ xs) (y ∷ ys) r s all back =
      let same : x ≡ y = first_same x xs y ys r s (all x (here x xs)) (back y (here y ys)) in
      let rest : xs ≡ ys = same_list xs ys (rest_rises x xs r) (rest_rises y ys s) (rest_has x xs y ys r same all) (rest_has y ys x xs s (sym same) back) in
      ap (λ (z : A). z ∷ xs) same ∙ ap (λ (zs : List A). y ∷ zs) rest

-- two lists that are exact are one
pub one_exact : {A : Type 0} (name : A → Bytes) (Stands : A → Type 0) (xs ys : List A) → HasExactly (by_names name) Stands xs → HasExactly (by_names name) Stands ys → xs ≡ ys
one_exact name Stands xs ys h k =
    same_list name xs ys h.in_order k.in_order (λ z c. k.complete z (All-contains Stands xs z h.sound c)) (λ z c. h.complete z (All-contains Stands ys z k.sound c))
