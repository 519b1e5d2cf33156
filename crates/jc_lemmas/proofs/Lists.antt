-- Tests of lists, and lists put together, beside the lemmas of std.
use Rattle.std.proofs.Common.{◌≡◌, ◌<◌, ℕ, zero, suc, Bool, true, List, [], ◌∷◌, ◌||◌, ◌⊎◌, inl, inr, ◌++◌, ◌∙◌, length, sym, refl, false, cond, Some, is_some, arith}
use Rattle.std.specs.Prelude.{slice_get}
use Rattle.std.proofs.lemmas.Option.{slice_get_within}
use Rattle.std.proofs.lemmas.Bool.{or_cases, or_left, or_right}
use Rattle.std.specs.List.{list_any, filter, find as first_where}
use Rattle.std.proofs.lemmas.List.Folds.{list_any-append}

-- a weaker test holds where a stronger does
pub any_weaker : {A : Type 0} (p q : A → Bool) → ((x : A) → p x ≡ true → q x ≡ true) → (xs : List A) → list_any p xs ≡ true → list_any q xs ≡ true
any_weaker p q f [] h = h
any_weaker p q f (x ∷ xs) h = go (or_cases (p x) (list_any p xs) h) (any_weaker p q f xs)
  where
    go : (p x ≡ true) ⊎ (list_any p xs ≡ true) → (list_any p xs ≡ true → list_any q xs ≡ true) → (q x || list_any q xs) ≡ true
    go (inl e) r = or_left (q x) (list_any q xs) (f x e)
    go (inr e) r = or_right (q x) (list_any q xs) (r e)

pub any_left : {A : Type 0} (p : A → Bool) (xs ys : List A) → list_any p xs ≡ true → list_any p (xs ++ ys) ≡ true
any_left p xs ys h = list_any-append p xs ys ∙ or_left (list_any p xs) (list_any p ys) h

pub any_right : {A : Type 0} (p : A → Bool) (xs ys : List A) → list_any p ys ≡ true → list_any p (xs ++ ys) ≡ true
any_right p xs ys h = list_any-append p xs ys ∙ or_right (list_any p xs) (list_any p ys) h

pub any_cases : {A : Type 0} (p : A → Bool) (xs ys : List A) → list_any p (xs ++ ys) ≡ true → (list_any p xs ≡ true) ⊎ (list_any p ys ≡ true)
any_cases p xs ys h = or_cases (list_any p xs) (list_any p ys) (sym (list_any-append p xs ys) ∙ h)

pub record IsCons {A : Type 0} (xs : List A) : Type 0 where
  pub head : A
  pub tail : List A
  pub is : xs ≡ head ∷ tail

pub cons_right : {A : Type 0} (xs ys : List A) → IsCons ys → IsCons (xs ++ ys)
cons_right [] ys c = c
cons_right (x ∷ xs) ys c = record { head = x; tail = xs ++ ys; is = refl }

pub filter-cons : {A : Type 0} (p : A → Bool) (xs : List A) → IsCons (filter p xs) → IsCons xs
filter-cons p [] c = c
filter-cons p (x ∷ xs) c = record { head = x; tail = xs; is = refl }

-- lists that are there or not
pub cons_or : {A : Type 0} (xs : List A) → (xs ≡ []) ⊎ IsCons xs
cons_or [] = inl refl
cons_or (x ∷ xs) = inr (record { head = x; tail = xs; is = refl })

pub found_any : {A : Type 0} (p : A → Bool) (xs : List A) → list_any p xs ≡ is_some (first_where p xs)
found_any p [] = refl
found_any p (x ∷ xs) = go (p x) (found_any p xs)
  where
    go : (b : Bool) → list_any p xs ≡ is_some (first_where p xs) → (b || list_any p xs) ≡ is_some (cond b (Some x) (first_where p xs))
    go true h = refl
    go false h = h

pub first_where-any : {A : Type 0} (test p : A → Bool) (xs : List A) (x : A) → first_where test xs ≡ Some x → p x ≡ true → list_any p xs ≡ true
first_where-any test p [] x e h = absurd (cc)
first_where-any test p (y ∷ xs) x e h = go (test y) e (first_where-any test p xs x)
  where
    go : (b : Bool) → cond b (Some y) (first_where test xs) ≡ Some x → (first_where test xs ≡ Some x → p x ≡ true → list_any p xs ≡ true) → (p y || list_any p xs) ≡ true
    go true q r = let k : y ≡ x = cc in or_left (p y) (list_any p xs) (rw k h)
    go false q r = or_right (p y) (list_any p xs) (r q h)

-- what is found passes the test
pub found_passes : {A : Type 0} (test : A → Bool) (xs : List A) (x : A) → first_where test xs ≡ Some x → test x ≡ true
found_passes test [] x e = absurd (cc)
found_passes test (y ∷ xs) x e = go (test y) refl e (found_passes test xs x)
  where
    go : (b : Bool) → test y ≡ b → cond b (Some y) (first_where test xs) ≡ Some x → (first_where test xs ≡ Some x → test x ≡ true) → test x ≡ true
    go true p q r = let k : y ≡ x = cc in rw (← k) p
    go false p q r = r q

-- the item at a place stays where others come behind
pub get_before : {A : Type 0} (xs ys : List A) (n : ℕ) → n < length xs → slice_get (xs ++ ys) n ≡ slice_get xs n
get_before [] ys n l = absurd (omega (arith, l))
get_before (x ∷ xs) ys zero l = refl
get_before (x ∷ xs) ys (suc n) l = get_before xs ys n (omega (arith, l))

pub get_front : {A : Type 0} (xs ys : List A) (n : ℕ) (x : A) → slice_get xs n ≡ Some x → slice_get (xs ++ ys) n ≡ Some x
get_front xs ys n x h = get_before xs ys n (slice_get_within xs n x h) ∙ h

-- the one that comes behind stands at their length
pub get_pushed : {A : Type 0} (xs : List A) (x : A) → slice_get (xs ++ x ∷ []) (length xs) ≡ Some x
get_pushed [] x = refl
get_pushed (y ∷ xs) x = get_pushed xs x
