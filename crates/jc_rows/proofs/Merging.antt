-- Rows that are merged.
use Rattle.std.proofs.Common.{◌≡◌, ◌-◌, take, length-drop, ℕ, ◌≤◌, ◌<◌, ◌+◌, Bool, true, false, List, [], ◌∷◌, ◌++◌, length, drop, get_or, refl, sym, ◌∙◌, ap, subst, Option, Some, None, arith, ◌⊎◌, inl, inr}
use Rattle.std.specs.Prelude.{cond, nat_eq}
use Rattle.std.proofs.lemmas.Bool.{eqb-true}
use Rattle.std.proofs.lemmas.Cmp.{ranked}
use Rattle.std.specs.Ordering.{nat_cmp}
use Rattle.std.specs.declared.cmp.Ordering.TheVariants.{Less, Equal, Greater}
use Rattle.std.proofs.lemmas.List.{drop_more, take_all, append_assoc, append-nil}
use Rattle.std.proofs.Math.ListN.{drop_of_length-le}
use Rattle.jc_facts.specs.Options.{or_else}
use Rattle.jc_index.specs.declared.ids.Found.{Found}
use Rattle.jc_rows.specs.declared.row.RowItem.{RowItem}
use Rattle.jc_rows.specs.Rows.{Rises, RisesFrom, entry}
use Rattle.jc_rows.specs.steps.Merging.{IsUnderWay, IsMerged}
use Rattle.jc_rows.proofs.Entries.{entry-append, entry-below, rises-without}

-- ---- rising

after : (n : ℕ) (out : List RowItem) (y : RowItem) (ys : List RowItem) → RisesFrom n (out ++ (y ∷ ys)) → RisesFrom (y.key + 1) ys
after n [] y ys r = r.1
after n (o ∷ out) y ys r = after (o.key + 1) out y ys r.1

between : (n : ℕ) (out : List RowItem) (x : RowItem) (xs ys : List RowItem) → RisesFrom n (out ++ (x ∷ xs)) → RisesFrom n (out ++ ys) → RisesFrom (x.key + 1) ys → RisesFrom n (out ++ (x ∷ ys))
between n [] x xs ys r s h = (r.0, h)
between n (o ∷ out) x xs ys r s h = (r.0, between (o.key + 1) out x xs ys r.1 s.1 h)

-- ---- one step of merging

module _ (first second out : List RowItem) (x : RowItem) (xs : List RowItem) (y : RowItem) (ys : List RowItem) (w : IsUnderWay first second out (x ∷ xs) (y ∷ ys)) where
  one_first : (o : Option Found) (t : Bool) (f : Found) (a b : Option Found) → or_else (or_else o (cond t (Some f) a)) (or_else o (cond t (Some f) b)) ≡ or_else (or_else o (cond t (Some f) a)) (or_else o b)
  unfolding or_else
  one_first (Some p) t f a b = refl
  one_first None true f a b = refl
  one_first None false f a b = refl

  one_both : (o : Option Found) (t : Bool) (f g : Found) (a b : Option Found) → or_else (or_else o (cond t (Some f) a)) (or_else o (cond t (Some f) b)) ≡ or_else (or_else o (cond t (Some f) a)) (or_else o (cond t (Some g) b))
  unfolding or_else
  one_both (Some p) t f g a b = refl
  one_both None true f g a b = refl
  one_both None false f g a b = refl

  one_second : (o : Option Found) (t : Bool) (f : Found) (a b : Option Found) → (t ≡ true → a ≡ None) → or_else (or_else o (cond t (Some f) a)) (or_else o (cond t (Some f) b)) ≡ or_else (or_else o a) (or_else o (cond t (Some f) b))
  unfolding or_else
  one_second (Some p) t f a b h = refl
  one_second None true f a b h = ap (λ (e : Option Found). or_else e (Some f)) (sym (h refl))
  one_second None false f a b h = refl

  -- the entries of two rows, from those of their front and of the rest of each
  two : (n : ℕ) (p q : List RowItem) → or_else (entry (out ++ p) n) (entry (out ++ q) n) ≡ or_else (or_else (entry out n) (entry p n)) (or_else (entry out n) (entry q n))
  two n p q = ap (λ (e : Option Found). or_else e (entry (out ++ q) n)) (entry-append out p n) ∙ ap (or_else (or_else (entry out n) (entry p n))) (entry-append out q n)

  pub takes_first : x.key < y.key → IsUnderWay first second (out ++ (x ∷ [])) xs (y ∷ ys)
  takes_first l = record {
    first_rises = subst Rises (sym (append_assoc out (x ∷ []) xs)) w.first_rises;
    second_rises = subst Rises (sym (append_assoc out (x ∷ []) (y ∷ ys))) (between 0 out x xs (y ∷ ys) w.first_rises w.second_rises (omega (arith, l), after 0 out y ys w.second_rises));
    entries = λ n.
        ap (λ (r : List RowItem). or_else (entry r n) (entry ((out ++ (x ∷ [])) ++ (y ∷ ys)) n)) (append_assoc out (x ∷ []) xs)
        ∙ ap (λ (r : List RowItem). or_else (entry (out ++ (x ∷ xs)) n) (entry r n)) (append_assoc out (x ∷ []) (y ∷ ys))
        ∙ two n (x ∷ xs) (x ∷ y ∷ ys)
        ∙ one_first (entry out n) (nat_eq x.key n) x.found (entry xs n) (entry (y ∷ ys) n)
        ∙ sym (two n (x ∷ xs) (y ∷ ys)) ∙ w.entries n;
  }

  pub takes_both : x.key ≡ y.key → IsUnderWay first second (out ++ (x ∷ [])) xs ys
  takes_both e = record {
    first_rises = subst Rises (sym (append_assoc out (x ∷ []) xs)) w.first_rises;
    second_rises = subst Rises (sym (append_assoc out (x ∷ []) ys)) (between 0 out x xs ys w.first_rises (rises-without 0 out y ys w.second_rises) (subst (λ (k : ℕ). RisesFrom (k + 1) ys) (sym e) (after 0 out y ys w.second_rises)));
    entries = λ n.
        ap (λ (r : List RowItem). or_else (entry r n) (entry ((out ++ (x ∷ [])) ++ ys) n)) (append_assoc out (x ∷ []) xs)
        ∙ ap (λ (r : List RowItem). or_else (entry (out ++ (x ∷ xs)) n) (entry r n)) (append_assoc out (x ∷ []) ys)
        ∙ two n (x ∷ xs) (x ∷ ys)
        ∙ one_both (entry out n) (nat_eq x.key n) x.found y.found (entry xs n) (entry ys n)
        ∙ ap (λ (k : ℕ). or_else (or_else (entry out n) (entry (x ∷ xs) n)) (or_else (entry out n) (cond (nat_eq k n) (Some y.found) (entry ys n)))) e
        ∙ sym (two n (x ∷ xs) (y ∷ ys)) ∙ w.entries n;
  }

  pub takes_second : y.key < x.key → IsUnderWay first second (out ++ (y ∷ [])) (x ∷ xs) ys
  takes_second l = record {
    first_rises = subst Rises (sym (append_assoc out (y ∷ []) (x ∷ xs))) (between 0 out y ys (x ∷ xs) w.second_rises w.first_rises there);
    second_rises = subst Rises (sym (append_assoc out (y ∷ []) ys)) w.second_rises;
    entries = λ n.
        ap (λ (r : List RowItem). or_else (entry r n) (entry ((out ++ (y ∷ [])) ++ ys) n)) (append_assoc out (y ∷ []) (x ∷ xs))
        ∙ ap (λ (r : List RowItem). or_else (entry (out ++ (y ∷ x ∷ xs)) n) (entry r n)) (append_assoc out (y ∷ []) ys)
        ∙ two n (y ∷ x ∷ xs) (y ∷ ys)
        ∙ one_second (entry out n) (nat_eq y.key n) y.found (entry (x ∷ xs) n) (entry ys n) (λ e. entry-below (y.key + 1) n (x ∷ xs) (let s : y.key ≡ n = eqb-true y.key n e in omega (arith, s)) there)
        ∙ sym (two n (x ∷ xs) (y ∷ ys)) ∙ w.entries n;
  }
    where
      there : RisesFrom (y.key + 1) (x ∷ xs)
      there = (omega (arith, l), after 0 out x xs w.first_rises)

-- ---- the end

again_left : (o b : Option Found) → or_else o (or_else o b) ≡ or_else o b
unfolding or_else
again_left None b = refl
again_left (Some p) b = refl

again_right : (o a : Option Found) → or_else (or_else o a) o ≡ or_else o a
unfolding or_else
again_right None None = refl
again_right None (Some p) = refl
again_right (Some p) a = refl

module _ (first second out : List RowItem) where
  pub ends_right : (right : List RowItem) → IsUnderWay first second out [] right → IsMerged first second (out ++ right)
  ends_right right w = record {
    rises = w.second_rises;
    entries = λ n.
        entry-append out right n ∙ sym (again_left (entry out n) (entry right n))
        ∙ ap (or_else (entry out n)) (sym (entry-append out right n))
        ∙ ap (λ (r : List RowItem). or_else (entry r n) (entry (out ++ right) n)) (sym (append-nil out)) ∙ w.entries n;
  }

  pub ends_left : (left : List RowItem) → IsUnderWay first second out left [] → IsMerged first second (out ++ left)
  ends_left left w = record {
    rises = w.first_rises;
    entries = λ n.
        entry-append out left n ∙ sym (again_right (entry out n) (entry left n))
        ∙ ap (λ (e : Option Found). or_else e (entry out n)) (sym (entry-append out left n))
        ∙ ap (λ (r : List RowItem). or_else (entry (out ++ left) n) (entry r n)) (sym (append-nil out)) ∙ w.entries n;
  }

-- the rest of a row, from its first item on
pub rest_of : (row : List RowItem) (i : ℕ) (x : RowItem) → i < length row → x ≡ get_or row i x → drop i row ≡ x ∷ drop (i + 1) row
rest_of row i x l e = drop_more row i x l ∙ ap (λ (z : RowItem). z ∷ drop (i + 1) row) (sym e)

pub opened : (first second out : List RowItem) (i j : ℕ) (x y : RowItem) → i < length first → j < length second → x ≡ get_or first i x → y ≡ get_or second j y
    → IsUnderWay first second out (drop i first) (drop j second) → IsUnderWay first second out (x ∷ drop (i + 1) first) (y ∷ drop (j + 1) second)
opened first second out i j x y l m e f w =
    subst (λ (q : List RowItem). IsUnderWay first second out (x ∷ drop (i + 1) first) q) (rest_of second j y m f)
    (subst (λ (p : List RowItem). IsUnderWay first second out p (drop j second)) (rest_of first i x l e) w)

pub closed : (first second out : List RowItem) (i j : ℕ) → (length first ≤ i) ⊎ (length second ≤ j) → IsUnderWay first second out (drop i first) (drop j second)
    → IsMerged first second ((out ++ drop i first) ++ drop j second)
closed first second out i j (inl l) w =
    let e : drop i first ≡ [] = drop_of_length-le first l in
    subst (λ (p : List RowItem). IsMerged first second ((out ++ p) ++ drop j second)) (sym e)
    (subst (λ (p : List RowItem). IsMerged first second (p ++ drop j second)) (sym (append-nil out))
    (ends_right first second out (drop j second) (subst (λ (p : List RowItem). IsUnderWay first second out p (drop j second)) e w)))
closed first second out i j (inr l) w =
    let e : drop j second ≡ [] = drop_of_length-le second l in
    subst (λ (q : List RowItem). IsMerged first second ((out ++ drop i first) ++ q)) (sym e)
    (subst (λ (q : List RowItem). IsMerged first second q) (sym (append-nil (out ++ drop i first)))
    (ends_left first second out (drop i first) (subst (λ (q : List RowItem). IsUnderWay first second out (drop i first) q) e w)))

-- ---- what a comparison says

pub is_less : (a b : ℕ) → Less ≡ nat_cmp a b → a < b
is_less a b e = ranked a b Less e

pub is_equal : (a b : ℕ) → Equal ≡ nat_cmp a b → a ≡ b
is_equal a b e = ranked a b Equal e

pub is_greater : (a b : ℕ) → Greater ≡ nat_cmp a b → b < a
is_greater a b e = ranked a b Greater e

-- ---- back to places

pub closes_first : (first second out : List RowItem) (i : ℕ) (x : RowItem) (ys : List RowItem) → i < length first → x ≡ get_or first i x → IsUnderWay first second out (x ∷ drop (i + 1) first) ys → IsUnderWay first second out (drop i first) ys
closes_first first second out i x ys l e w = subst (λ (p : List RowItem). IsUnderWay first second out p ys) (sym (rest_of first i x l e)) w

pub closes_second : (first second out : List RowItem) (xs : List RowItem) (j : ℕ) (y : RowItem) → j < length second → y ≡ get_or second j y → IsUnderWay first second out xs (y ∷ drop (j + 1) second) → IsUnderWay first second out xs (drop j second)
closes_second first second out xs j y l e w = subst (λ (q : List RowItem). IsUnderWay first second out xs q) (sym (rest_of second j y l e)) w

pub whole : (row : List RowItem) (i : ℕ) → take (length row - i) (drop i row) ≡ drop i row
whole row i = take_all (length row - i) (drop i row) (omega (arith, length-drop i row))
