-- Names that aren't listed any more, and names that stand in a set.
use Rattle.std.proofs.Common.{◌≡◌, ◌<◌, ◌&&◌, ◌||◌, Bool, true, false, not, List, [], ◌∷◌, map, refl, sym, ◌∙◌, ap, subst}
use Rattle.std.specs.Cmp.Lexicographic.{pointwise, pointwise_decides}
use Rattle.std.specs.List.{filter, list_any}
use Rattle.std.specs.List.Sorted.{IsPermutation}
use Rattle.std.proofs.lemmas.List.Folds.{list_any_at}
use Rattle.std.proofs.lemmas.List.Sorted.{list_any-IsPermutation}
use Rattle.std.proofs.lemmas.Map.Views.{any-filter_same}
use Rattle.std.proofs.lemmas.Slice.Eq.{bytes_eq-Decides}
use Rattle.std.proofs.Math.Bool.{and-true}
use Rattle.jc_facts.specs.Names.{Bytes, same, is_name_among}
use Rattle.jc_facts.proofs.Same.{same_is, same_itself}
use Rattle.jc_lemmas.proofs.Listed.{EachOf, list_any-same}
use Rattle.jc_worlds.proofs.Allowed.{among_each}
use Rattle.jc_index.specs.Ids.{names}
use Rattle.jc_index.proofs.Numbers.{names-length}
use Rattle.jc_sides.specs.SharedOf.{SharedOf, IsShared, AreThose, HasThose, name_of}
use Rattle.jc_sides.specs.SidesOf.{SidesOf}

-- ---- names that are no longer listed

never : (b : Bool) → ((b && false) || false) ≡ false
never true = refl
never false = refl

module _ (p : Bytes → Bool) (ys : List Bytes) where
  none_of : (xs : List Bytes) → EachOf (λ x. is_name_among ys x ≡ true) xs → list_any (λ x. p x && not (is_name_among ys x)) xs ≡ false
  none_of [] h = refl
  none_of (x ∷ xs) h = rw (h.0, none_of xs h.1) (never (p x))

  -- of the same names none
  pub none_dropped : (xs : List Bytes) → pointwise same xs ys ≡ true → list_any (λ x. p x && not (is_name_among ys x)) xs ≡ false
  none_dropped xs h =
      let e : ys ≡ xs = sym ((pointwise_decides bytes_eq-Decides xs ys).0 h) in
      none_of xs (subst (λ (zs : List Bytes). EachOf (λ x. is_name_among zs x ≡ true) xs) (sym e) (among_each xs))

  -- by a set of the names
  pub dropped_from : (set : List Bytes) → IsPermutation ys set → (xs : List Bytes) → list_any (λ x. p x && not (is_name_among set x)) xs ≡ list_any (λ x. p x && not (is_name_among ys x)) xs
  dropped_from set h xs = list_any-same (λ x. p x && not (is_name_among set x)) (λ x. p x && not (is_name_among ys x)) xs (each xs)
    where
      each : (zs : List Bytes) → EachOf (λ x. (p x && not (is_name_among set x)) ≡ (p x && not (is_name_among ys x))) zs
      each [] = tt
      each (z ∷ zs) = (ap (λ (b : Bool). p z && not b) (sym (list_any-IsPermutation (λ y. same y z) ys set h)), each zs)

-- ---- names of those that pass a test

-- a class that both sides have is one of the old side's
listed : (s : SidesOf) (b : SharedOf) → IsShared s b → is_name_among (names s.old) (name_of b) ≡ true
listed s b h =
    list_any_at (λ y. same y (name_of b)) (names s.old) b.old [] (subst (λ m. b.old < m) (sym (names-length s.old)) h.old_below)
    (subst (λ (y : Bytes). same y (name_of b) ≡ true) (sym h.old_name) (same_itself (name_of b)))

-- a set of the names of all that pass the test
pub has_those : (test : Bytes → Bool) (s : SidesOf) (bs : List SharedOf) (set : List Bytes) → AreThose test s bs → IsPermutation (map name_of bs) set → HasThose test s set
has_those test s bs set those p b h =
    sym (list_any-IsPermutation (λ y. same y (name_of b)) (filter test (names s.old)) set (subst (λ (xs : List Bytes). IsPermutation xs set) those.all p))
    ∙ any-filter_same (λ y. same y (name_of b)) test (test (name_of b)) (λ k e. ap test (same_is k (name_of b) e)) (names s.old)
    ∙ rw (listed s b h) (and-true (test (name_of b)))
