-- Names that stand in a list more than once.
use Rattle.std.proofs.Common.{◌≡◌, ◌⊎◌, inl, inr, ℕ, zero, suc, ◌+◌, ◌<◌, ◌≤◌, not, Bool, true, false, List, [], ◌∷◌, ◌++◌, length, get_or, take, Option, Some, None, refl, sym, ap, subst, ◌∙◌, arith}
use Rattle.std.specs.Prelude.{slice_get, nat_eq, is_some, IfSome}
use Rattle.std.specs.Bool.{Decides}
use Rattle.std.specs.Cmp.Lexicographic.{pointwise, pointwise_decides}
use Rattle.std.proofs.lemmas.List.{take_more, take_all, get_or-take, length-take-le}
use Rattle.std.proofs.lemmas.Option.{slice_get_read, slice_get_within, get_or_from_slice_get}
use Rattle.std.proofs.lemmas.Slice.Eq.{bytes_eq-Decides}
use Rattle.jc_lemmas.proofs.Lists.{get_front, get_pushed}
use Rattle.jc_base.specs.Again.{IsAgain}
use Rattle.jc_base.specs.KnownAgain.{AreAgain}

get-last : {A : Type 0} (xs : List A) (y x : A) (n : ℕ) → slice_get (xs ++ y ∷ []) n ≡ Some x → (slice_get xs n ≡ Some x) ⊎ ((n ≡ length xs) × (y ≡ x))
get-last [] y x zero h = inr (refl, cc)
get-last {A = A} [] y x (suc n) h = absurd (let clash : None ≡ Some x = h in cc)
get-last (z ∷ xs) y x zero h = inl h
get-last (z ∷ xs) y x (suc n) h = go (get-last xs y x n h)
  where
    go : (slice_get xs n ≡ Some x) ⊎ ((n ≡ length xs) × (y ≡ x)) → (slice_get xs n ≡ Some x) ⊎ ((suc n ≡ suc (length xs)) × (y ≡ x))
    go (inl k) = inl k
    go (inr k) = inr (ap suc k.0, k.1)

-- a name is added
pub again_more : (names now : List (List ℕ)) (x : List ℕ) (earlier : List (Option ℕ)) → now ≡ names ++ x ∷ [] → AreAgain names earlier → AreAgain now earlier
again_more names now x earlier e h = λ at place k. more at place (h at place k)
  where
    more : (at place : ℕ) → IsAgain names at place → IsAgain now at place
    more at place g = record {
      after = g.after;
      name = g.name;
      there = ap (λ (xs : List (List ℕ)). slice_get xs at) e ∙ get_front names (x ∷ []) at g.name g.there;
      before = ap (λ (xs : List (List ℕ)). slice_get xs place) e ∙ get_front names (x ∷ []) place g.name g.before;
    }

-- the name that is added stands at an earlier place
pub again_last : (names now : List (List ℕ)) (x : List ℕ) (at place : ℕ) → now ≡ names ++ x ∷ [] → at ≡ length names → slice_get names place ≡ Some x → IsAgain now at place
again_last names now x at place e l s = record {
  after = subst (λ (n : ℕ). place < n) (sym l) (slice_get_within names place x s);
  name = x;
  there = ap (λ (xs : List (List ℕ)). slice_get xs at) e ∙ ap (λ (n : ℕ). slice_get (names ++ x ∷ []) n) l ∙ get_pushed names x;
  before = ap (λ (xs : List (List ℕ)). slice_get xs place) e ∙ get_front names (x ∷ []) place x s;
}

-- a place is added at which nothing is known
pub again_none : (names : List (List ℕ)) (earlier now : List (Option ℕ)) → now ≡ earlier ++ None ∷ [] → AreAgain names earlier → AreAgain names now
again_none names earlier now e h = λ at place k. go at place (get-last earlier None (Some place) at (ap (λ (os : List (Option ℕ)). slice_get os at) (sym e) ∙ k))
  where
    go : (at place : ℕ) → (slice_get earlier at ≡ Some (Some place)) ⊎ ((at ≡ length earlier) × (None ≡ Some place)) → IsAgain names at place
    go at place (inl k) = h at place k
    go at place (inr k) = absurd (let clash : None ≡ Some place = k.1 in cc)

-- ---- two lists, name by name

-- their test tells whether they are equal
pub names_told : (xs ys : List (List ℕ)) → Decides (pointwise (pointwise nat_eq) xs ys) (xs ≡ ys)
names_told xs ys = pointwise_decides (λ (x y : List ℕ). bytes_eq-Decides x y) xs ys

-- one name more is the same
pub front_more : (xs ys : List (List ℕ)) (at : ℕ) (x y : List ℕ) → slice_get xs at ≡ Some x → slice_get ys at ≡ Some y → x ≡ y → take at xs ≡ take at ys → take (at + 1) xs ≡ take (at + 1) ys
front_more xs ys at x y s t e h =
    take_more xs at x (slice_get_within xs at x s)
    ∙ ap (λ (z : List ℕ). take at xs ++ z ∷ []) (get_or_from_slice_get xs at x x s ∙ e ∙ sym (get_or_from_slice_get ys at y y t))
    ∙ ap (λ (zs : List (List ℕ)). zs ++ get_or ys at y ∷ []) h ∙ sym (take_more ys at y (slice_get_within ys at y t))

-- the same of one that stands in both at one earlier place too
pub front_again : (xs ys : List (List ℕ)) (at place : ℕ) → IsAgain xs at place → IsAgain ys at place → take at xs ≡ take at ys → take (at + 1) xs ≡ take (at + 1) ys
front_again xs ys at place g k h =
    let first : get_or (take at xs) place g.name ≡ g.name = get_or-take at xs place g.name g.after ∙ get_or_from_slice_get xs place g.name g.name g.before in
    let other : get_or (take at ys) place g.name ≡ k.name = get_or-take at ys place g.name k.after ∙ get_or_from_slice_get ys place k.name g.name k.before in
    front_more xs ys at g.name k.name g.there k.there (sym first ∙ ap (λ (zs : List (List ℕ)). get_or zs place g.name) h ∙ other) h

-- the same where one may be known
pub front_known : (xs ys : List (List ℕ)) (at : ℕ) (found : Option ℕ) → IfSome found (λ place. IsAgain xs at place × IsAgain ys at place) → true ≡ is_some found → take at xs ≡ take at ys → take (at + 1) xs ≡ take (at + 1) ys
front_known xs ys at None g t h = absurd (cc)
front_known xs ys at (Some place) g t h = front_again xs ys at place g.0 g.1 h

-- one that was compared
pub front_same : (xs ys : List (List ℕ)) (at : ℕ) (x y : List ℕ) → at < length xs → at < length ys → x ≡ get_or xs at x → y ≡ get_or ys at y → false ≡ not (pointwise nat_eq x y) → take at xs ≡ take at ys → take (at + 1) xs ≡ take (at + 1) ys
front_same xs ys at x y l m e f t h = front_more xs ys at x y (slice_get_read xs (length xs) at x refl l e) (slice_get_read ys (length ys) at y refl m f) ((bytes_eq-Decides x y).0 (passed (pointwise nat_eq x y) t)) h
  where
    passed : (b : Bool) → false ≡ not b → b ≡ true
    passed true k = refl
    passed false k = absurd (cc)

-- all of them were
pub all_same : (xs ys : List (List ℕ)) (at : ℕ) → length xs ≤ at → length ys ≤ at → take at xs ≡ take at ys → true ≡ pointwise (pointwise nat_eq) xs ys
all_same xs ys at l m h = sym ((names_told xs ys).1 (sym (take_all at xs l) ∙ h ∙ take_all at ys m))

-- one that was compared differs
pub one_differs : (xs ys : List (List ℕ)) (at : ℕ) (x y : List ℕ) → at < length xs → at < length ys → x ≡ get_or xs at x → y ≡ get_or ys at y → true ≡ not (pointwise nat_eq x y) → false ≡ pointwise (pointwise nat_eq) xs ys
one_differs xs ys at x y l m e f t = go (pointwise (pointwise nat_eq) xs ys) refl
  where
    same : xs ≡ ys → x ≡ y
    same k =
        let both : Some x ≡ Some y = sym (slice_get_read xs (length xs) at x refl l e) ∙ ap (λ (zs : List (List ℕ)). slice_get zs at) k ∙ slice_get_read ys (length ys) at y refl m f in
        cc

    go : (b : Bool) → pointwise (pointwise nat_eq) xs ys ≡ b → false ≡ b
    go false k = refl
    go true k = sym (t ∙ ap not ((bytes_eq-Decides x y).1 (same ((names_told xs ys).0 k))))

-- ---- a list that is copied name by name

-- a name that stands at an earlier place
pub copied_again : (names copy now : List (List ℕ)) (at place : ℕ) → IsAgain names at place → copy ≡ take at names → ((x : List ℕ) → slice_get copy place ≡ Some x → now ≡ copy ++ x ∷ []) → now ≡ take (at + 1) names
copied_again names copy now at place g e h =
    let within : at < length names = slice_get_within names at g.name g.there in
    let front : length (take at names) ≡ at = length-take-le at names (omega (arith, within)) in
    let is : get_or (take at names) place g.name ≡ g.name = get_or-take at names place g.name g.after ∙ get_or_from_slice_get names place g.name g.name g.before in
    let there : slice_get copy place ≡ Some g.name = ap (λ (xs : List (List ℕ)). slice_get xs place) e ∙ slice_get_read (take at names) (length (take at names)) place g.name refl (omega (arith, g.after, front)) (sym is) in
    h g.name there ∙ ap (λ (xs : List (List ℕ)). xs ++ g.name ∷ []) e ∙ ap (λ (x : List ℕ). take at names ++ x ∷ []) (sym (get_or_from_slice_get names at g.name g.name g.there)) ∙ sym (take_more names at g.name within)

-- another one
pub copied_one : (names copy now : List (List ℕ)) (at : ℕ) (x y : List ℕ) → at < length names → x ≡ get_or names at x → y ≡ x → now ≡ copy ++ y ∷ [] → copy ≡ take at names → now ≡ take (at + 1) names
copied_one names copy now at x y l f i h e =
    h ∙ ap (λ (xs : List (List ℕ)). xs ++ y ∷ []) e ∙ ap (λ (z : List ℕ). take at names ++ z ∷ []) (i ∙ f) ∙ sym (take_more names at x l)
