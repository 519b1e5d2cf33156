-- Two clients of names that differ, each among the names that a class permits.
use Rattle.std.proofs.Common.{◌≡◌, Bool, true, false, List, ◌⊎◌, inl, inr, refl, sym, ◌∙◌, ap, subst, Some, None, is_some, not, ◌&&◌, ◌||◌}
use Rattle.std.specs.Cmp.{both_ways}
use Rattle.std.specs.List.{Contains, list_any, find as first_where}
use Rattle.std.proofs.lemmas.Bool.{and_from, and_parts, or_cases, or_left, or_right}
use Rattle.jc_facts.specs.Names.{Bytes, same}
use Rattle.jc_facts.proofs.Same.{same_is, same_itself}
use Rattle.jc_lemmas.proofs.Bools.{contradicts}
use Rattle.jc_lemmas.proofs.Listed.{Passes, any_has, any_passes}
use Rattle.jc_lemmas.proofs.Lists.{any_weaker, first_where-any, found_any, found_passes}

-- names that differ
apart : (x y z : Bytes) → same x y ≡ true → not (same z y) ≡ true → not (same x z) ≡ true
apart x y z e d = go (same x z) refl
  where
    go : (b : Bool) → same x z ≡ b → not b ≡ true
    go false f = refl
    go true f = absurd (contradicts (same z y) (subst (λ u. same z u ≡ true) (sym (same_is x z f) ∙ same_is x y e) (same_itself z)) (off (same z y) d))
      where
        off : (b : Bool) → not b ≡ true → b ≡ false
        off false h = refl
        off true h = absurd (cc)

module _ (p : Bytes → Bool) where
  abbrev other : Bytes → List Bytes → Bool
  other x ys = list_any (λ y. p y && not (same x y)) ys

  abbrev two : List Bytes → List Bytes → Bool
  two xs ys = list_any (λ x. p x && other x ys) xs

  some_first : (xs : List Bytes) → list_any p xs ≡ true → is_some (first_where p xs) ≡ true
  some_first xs h = sym (found_any p xs) ∙ h

  has_two : (xs ys : List Bytes) (x : Bytes) → Contains xs x → p x ≡ true → other x ys ≡ true → two xs ys ≡ true
  has_two xs ys x c h o = any_has (λ x. p x && other x ys) xs x c (and_from (p x) (other x ys) h o)

  is_other : (x y : Bytes) (ys : List Bytes) → Contains ys y → p y ≡ true → not (same x y) ≡ true → other x ys ≡ true
  is_other x y ys c h d = any_has (λ y. p y && not (same x y)) ys y c (and_from (p y) (not (same x y)) h d)

  -- where no name of the first list passes, there are no two
  pub two_none : (xs ys : List Bytes) → first_where p xs ≡ None → false ≡ two xs ys
  two_none xs ys h = sym (go (two xs ys) refl)
    where
      go : (b : Bool) → two xs ys ≡ b → two xs ys ≡ false
      go false e = e
      go true e = absurd (contradicts (list_any p xs) (any_weaker (λ x. p x && other x ys) p (λ x t. (and_parts (p x) (other x ys) t).0) xs e) (found_any p xs ∙ ap is_some h))

  -- else the first that passes is one of them, or one of the second list is that name and another one of the first is beside it
  module _ (xs ys : List Bytes) (x : Bytes) (first : first_where p xs ≡ Some x) where
    abbrev beside : Bool
    beside = other x ys || (other x xs && is_some (first_where p ys))

    taken : two xs ys ≡ true → beside ≡ true
    taken h =
        let m : Passes (λ z. p z && other z ys) xs = any_passes (λ z. p z && other z ys) xs h in
        let a = and_parts (p m.one) (other m.one ys) m.passes in
        let n : Passes (λ y. p y && not (same m.one y)) ys = any_passes (λ y. p y && not (same m.one y)) ys a.1 in
        let b = and_parts (p n.one) (not (same m.one n.one)) n.passes in
        go m.one n.one m.is_in a.0 n.is_in b.0 b.1 (same x n.one) refl
      where
        go : (z y : Bytes) → Contains xs z → p z ≡ true → Contains ys y → p y ≡ true → not (same z y) ≡ true → (t : Bool) → same x y ≡ t → beside ≡ true
        go z y c g d h e false f = or_left (other x ys) (other x xs && is_some (first_where p ys)) (is_other x y ys d h (ap not f))
        go z y c g d h e true f =
            or_right (other x ys) (other x xs && is_some (first_where p ys))
            (and_from (other x xs) (is_some (first_where p ys)) (is_other x z xs c g (apart x y z f e)) (some_first ys (any_has p ys y d h)))

    by_first : other x ys ≡ true → two xs ys ≡ true
    by_first o = first_where-any p (λ z. p z && other z ys) xs x first (and_from (p x) (other x ys) (found_passes p xs x first) o)

    given : beside ≡ true → two xs ys ≡ true
    given h = by (or_cases (other x ys) (other x xs && is_some (first_where p ys)) h)
      where
        go : (z y : Bytes) → Contains xs z → p z ≡ true → not (same x z) ≡ true → Contains ys y → p y ≡ true → (t : Bool) → same z y ≡ t → two xs ys ≡ true
        go z y c g e d h false f = has_two xs ys z c g (is_other z y ys d h (ap not f))
        go z y c g e d h true f = by_first (is_other x y ys d h (subst (λ u. not (same x u) ≡ true) (same_is z y f) e))

        by : (other x ys ≡ true) ⊎ ((other x xs && is_some (first_where p ys)) ≡ true) → two xs ys ≡ true
        by (inl o) = by_first o
        by (inr k) =
            let q = and_parts (other x xs) (is_some (first_where p ys)) k in
            let m : Passes (λ z. p z && not (same x z)) xs = any_passes (λ z. p z && not (same x z)) xs q.0 in
            let a = and_parts (p m.one) (not (same x m.one)) m.passes in
            let n : Passes p ys = any_passes p ys (found_any p ys ∙ q.1) in
            go m.one n.one m.is_in a.0 a.1 n.is_in n.passes (same m.one n.one) refl

    pub two_some : beside ≡ two xs ys
    two_some = both_ways beside (two xs ys) given taken
