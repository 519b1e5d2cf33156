-- The places of the classes that each class of a list names above itself.
use Rattle.std.proofs.Common.{◌≡◌, ℕ, ◌<◌, ◌≤◌, ◌+◌, arith, true, false, ltb, List, [], ◌∷◌, ◌++◌, length, get_or, map, take, refl, sym, ◌∙◌, ap, subst, Option, Some, None, ◌⊎◌, inl, inr}
use Rattle.std.proofs.lemmas.Bool.{ltb-true, lt-ltb}
use Rattle.std.specs.Prelude.{slice_get, option_map}
use Rattle.std.proofs.lemmas.List.{map_more, length-map, length-take-le, get_or-map, get_or-take}
use Rattle.std.proofs.lemmas.Option.{slice_get-map, slice_get_cases, slice_get_read, slice_get_within, get_or_from_slice_get}
use Rattle.jc_facts.specs.declared.class_facts.ClassFacts.{ClassFacts}
use Rattle.jc_facts.specs.Names.{Bytes}
use Rattle.jc_facts.specs.Options.{and_then}
use Rattle.jc_facts.specs.world.Search.{supers}
use Rattle.jc_index.specs.Ids.{place_of}
use Rattle.jc_base.specs.Again.{IsAgain}
use Rattle.jc_index.specs.steps.Order.{names_at}
use Rattle.jc_index.specs.steps.PlacesAbove.{places_above, place_above}
use Rattle.jc_index.proofs.NamedAbove.{class-at}

-- one name more is looked for
pub row-more : {A : Type 0} (f : Bytes → A) (xs : List Bytes) (at : ℕ) (x : Bytes) (row now : List A) (a : A) → slice_get xs at ≡ Some x → a ≡ f x → now ≡ row ++ a ∷ [] → row ≡ map f (take at xs) → now ≡ map f (take (at + 1) xs)
row-more {A = A} f xs at x row now a s e q h =
    q ∙ ap (λ (bs : List A). bs ++ a ∷ []) h ∙ ap (λ (b : A). map f (take at xs) ++ b ∷ []) (e ∙ ap f (sym (get_or_from_slice_get xs at x x s))) ∙ sym (map_more f xs at x (slice_get_within xs at x s))

-- as many as names were looked for
pub row-length : {A : Type 0} (f : Bytes → A) (xs : List Bytes) (at : ℕ) (row : List A) → at < length xs → row ≡ map f (take at xs) → length row ≡ at
row-length f xs at row l h = ap length h ∙ length-map (take at xs) f ∙ length-take-le at xs (omega (arith, l))

-- the same of a name that stands at an earlier place too
pub row-again : {A : Type 0} (f : Bytes → A) (xs : List Bytes) (at earlier : ℕ) (row now : List A) (a : A) → IsAgain xs at earlier → row ≡ map f (take at xs) → a ≡ get_or row earlier a → now ≡ row ++ a ∷ [] → now ≡ map f (take (at + 1) xs)
row-again {A = A} f xs at earlier row now a g h e q =
    let within : at < length xs = slice_get_within xs at g.name g.there in
    let front : length (take at xs) ≡ at = length-take-le at xs (omega (arith, within)) in
    let is : a ≡ f g.name =
    e ∙ ap (λ (r : List A). get_or r earlier a) h ∙ get_or-map f (take at xs) earlier g.name a (omega (arith, g.after, front))
    ∙ ap f (get_or-take at xs earlier g.name g.after ∙ get_or_from_slice_get xs earlier g.name g.name g.before) in
    row-more f xs at g.name row now a g.there is q h

-- ---- a row by its place

pub row-there : {A : Type 0} (rows : List A) (place : ℕ) (row : A) → true ≡ ltb place (length rows) → row ≡ get_or rows place row → slice_get rows place ≡ Some row
row-there rows place row t e = slice_get_read rows (length rows) place row refl (ltb-true place (length rows) (sym t)) e

pub row-past : {A : Type 0} (rows : List A) (place : ℕ) → false ≡ ltb place (length rows) → slice_get rows place ≡ None
row-past {A = A} rows place f = go (slice_get_cases rows place).1
  where
    go : ((x : A) × (place < length rows) × (slice_get rows place ≡ Some x) × (get_or rows place x ≡ x)) ⊎ ((length rows ≤ place) × (slice_get rows place ≡ None)) → slice_get rows place ≡ None
    go (inl x) = absurd (let t : ltb place (length rows) ≡ true = lt-ltb place (length rows) x.1 in let clash : false ≡ true = f ∙ t in cc)
    go (inr x) = x.1

-- the place that the rows have
module _ (cs : List ClassFacts) (rows : List (List (Option ℕ))) (h : rows ≡ map (places_above cs) cs) (place at : ℕ) where
  there : slice_get rows place ≡ option_map (places_above cs) (slice_get cs place)
  there = ap (λ (rs : List (List (Option ℕ))). slice_get rs place) h ∙ slice_get-map (places_above cs) cs place

  pub in-row : (row : List (Option ℕ)) → slice_get rows place ≡ Some row → and_then (λ (o : Option ℕ). o) (slice_get row at) ≡ place_above cs place at
  unfolding and_then
  in-row row e = go (slice_get cs place) (sym there ∙ e)
    where
      go : (o : Option ClassFacts) → option_map (places_above cs) o ≡ Some row → and_then (λ (p : Option ℕ). p) (slice_get row at) ≡ and_then (λ c. and_then (place_of (names_at cs)) (slice_get (supers c) at)) o
      go None q = absurd (let clash : None ≡ Some row = q in cc)
      go (Some c) q =
          let is : places_above cs c ≡ row = cc in
          subst (λ (r : List (Option ℕ)). and_then (λ (p : Option ℕ). p) (slice_get r at) ≡ and_then (place_of (names_at cs)) (slice_get (supers c) at)) is (class-at (place_of (names_at cs)) (supers c) at)

  pub no-row : slice_get rows place ≡ None → None ≡ place_above cs place at
  unfolding and_then
  no-row e = go (slice_get cs place) (sym there ∙ e)
    where
      go : (o : Option ClassFacts) → option_map (places_above cs) o ≡ None → None ≡ and_then (λ c. and_then (place_of (names_at cs)) (slice_get (supers c) at)) o
      go None q = refl
      go (Some c) q = absurd (let clash : Some (places_above cs c) ≡ None = q in cc)
