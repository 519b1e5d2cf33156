-- Names that are numbered in a set in the order in which they were added.
use Rattle.std.proofs.Common.{◌≡◌, ◌≢◌, ◌+◌, ℕ, suc, Bool, true, false, cond, not, ◌||◌, List, [], ◌∷◌, ◌++◌, length, take, position, refl, sym, ◌∙◌, ap, subst, Option, Some, None, arith}
use Rattle.std.specs.Prelude.{nat_eq, nat_lt, option_map}
use Rattle.std.specs.List.{list_any, position_or_len}
use Rattle.std.specs.Cmp.Lexicographic.{pointwise, same_text, other_text}
use Rattle.std.proofs.lemmas.Slice.Eq.{bytes_eq-Decides}
use Rattle.jc_facts.specs.Names.{Bytes, same, is_name_among}
use Rattle.jc_index.specs.Ids.{place_of}

-- the test of the set is the test of names
pub same-test : (x y : Bytes) → pointwise nat_eq x y ≡ same y x
same-test x y = go (pointwise nat_eq x y) refl
  where
    other : (b : Bool) → same y x ≡ b → x ≢ y → false ≡ b
    other true e n = absurd (n (sym ((bytes_eq-Decides y x).0 e)))
    other false e n = refl

    go : (b : Bool) → pointwise nat_eq x y ≡ b → b ≡ same y x
    go true e = sym ((bytes_eq-Decides y x).1 (sym (same_text x y (sym e))))
    go false e = other (same y x) refl (other_text x y (sym e))

-- ---- the place in the set is the place in the list

none_left : (l m : ℕ) → m ≡ suc l → nat_lt 0 m ≡ true
none_left l m e = grind arith

one_less : (p l m : ℕ) → m ≡ suc l → nat_lt (1 + p) m ≡ nat_lt p l
one_less p l m e = grind arith

module _ (x : Bytes) where
  step : (b : Bool) (p l m : ℕ) → m ≡ suc l → cond (nat_lt (cond (not b) (1 + p) 0) m) (Some (cond (not b) (1 + p) 0)) None ≡ cond b (Some 0) (option_map suc (cond (nat_lt p l) (Some p) None))
  step true p l m e = rw (none_left l m e) refl
  step false p l m e = rw (one_less p l m e) (go (nat_lt p l))
    where
      go : (c : Bool) → cond c (Some (1 + p)) None ≡ option_map suc (cond c (Some p) None)
      go true = ap Some (let q : 1 + p ≡ suc p = omega arith in q)
      go false = refl

  pub position-place : (names : List Bytes) → position (λ y. pointwise nat_eq x y) names ≡ place_of names x
  unfolding place_of
  position-place [] = refl
  position-place (y ∷ ys) =
      step (pointwise nat_eq x y) (position_or_len (λ z. pointwise nat_eq x z) ys) (length ys) (length (y ∷ ys)) (let q : length (y ∷ ys) ≡ suc (length ys) = omega arith in q)
      ∙ ap (λ (o : Option ℕ). cond (pointwise nat_eq x y) (Some 0) (option_map suc o)) (position-place ys)
      ∙ ap (λ (b : Bool). cond b (Some 0) (option_map suc (place_of ys x))) (same-test x y)

  -- whether it is in the set
  pub any-among : (names : List Bytes) → list_any (λ y. pointwise nat_eq x y) names ≡ is_name_among names x
  any-among [] = refl
  any-among (y ∷ ys) = ap (λ b. b || list_any (λ z. pointwise nat_eq x z) ys) (same-test x y) ∙ ap (λ b. same y x || b) (any-among ys)

  -- a name that wasn't in the set is the last one
  pub added_last : (names now : List Bytes) → now ≡ cond (list_any (λ y. pointwise nat_eq x y) names) names (names ++ x ∷ []) → is_name_among names x ≡ false → now ≡ names ++ x ∷ []
  added_last names now h a = h ∙ ap (λ (b : Bool). cond b names (names ++ x ∷ [])) (any-among names ∙ a)

-- ---- a name doesn't stand before its place

pub before_place : (ys : List Bytes) (x : Bytes) (n : ℕ) → place_of ys x ≡ Some n → is_name_among (take n ys) x ≡ false
unfolding place_of
before_place [] x n e = absurd (let clash : None ≡ Some n = e in cc)
before_place (y ∷ ys) x n e = go (same y x) refl e (before_place ys x)
  where
    go2 : same y x ≡ false → (o : Option ℕ) → place_of ys x ≡ o → option_map suc o ≡ Some n → ((m : ℕ) → place_of ys x ≡ Some m → is_name_among (take m ys) x ≡ false) → is_name_among (take n (y ∷ ys)) x ≡ false
    go2 p None q k r = absurd (let clash : None ≡ Some n = k in cc)
    go2 p (Some m) q k r = let l : suc m ≡ n = cc in subst (λ j. is_name_among (take j (y ∷ ys)) x ≡ false) l (ap (λ b. b || is_name_among (take m ys) x) p ∙ r m q)

    go : (b : Bool) → same y x ≡ b → cond b (Some 0) (option_map suc (place_of ys x)) ≡ Some n → ((m : ℕ) → place_of ys x ≡ Some m → is_name_among (take m ys) x ≡ false) → is_name_among (take n (y ∷ ys)) x ≡ false
    go true p k r = let l : 0 ≡ n = cc in subst (λ j. is_name_among (take j (y ∷ ys)) x ≡ false) l refl
    go false p k r = go2 p (place_of ys x) refl k r
