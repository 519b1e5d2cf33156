-- Who stands above several names.
use Rattle.std.proofs.Common.{◌≡◌, List, [], ◌∷◌, refl, ◌∙◌, ap, ◌||◌, Bool, true, ◌++◌, ◌⊎◌, inl, inr}
use Rattle.std.specs.List.{list_any}
use Rattle.jc_facts.specs.declared.class_facts.ClassFacts.{ClassFacts}
use Rattle.jc_facts.specs.Names.{Bytes, same}
use Rattle.jc_facts.specs.world.Hierarchy.{each, names_in}
use Rattle.std.proofs.lemmas.List.Folds.{list_any-append}
use Rattle.jc_lemmas.proofs.Listed.{EachOf, EachOf-append, EachOf-map}
use Rattle.jc_lemmas.proofs.Lists.{any_left, any_right, any_cases}

pub names_in-each : (f : Bytes → List ClassFacts) (xs : List Bytes) (y : Bytes) → names_in (each f xs) y ≡ list_any (λ x. names_in (f x) y) xs
unfolding each
names_in-each f [] y = refl
names_in-each f (x ∷ xs) y = list_any-append (λ c. same c.name y) (f x) (each f xs) ∙ ap (λ b. names_in (f x) y || b) (names_in-each f xs y)

pub any_each : (p : ClassFacts → Bool) (f : Bytes → List ClassFacts) (xs : List Bytes) → list_any p (each f xs) ≡ list_any (λ x. list_any p (f x)) xs
unfolding each
any_each p f [] = refl
any_each p f (x ∷ xs) = list_any-append p (f x) (each f xs) ∙ ap (λ b. list_any p (f x) || b) (any_each p f xs)

pub each-all : (P : ClassFacts → Type 0) (f : Bytes → List ClassFacts) (xs : List Bytes) → EachOf (λ x. EachOf P (f x)) xs → EachOf P (each f xs)
unfolding each
each-all P f [] h = tt
each-all P f (x ∷ xs) h = EachOf-append P (f x) (each f xs) h.0 (each-all P f xs h.1)

-- name by name
pub each-map : (test : ClassFacts → Bool) (f g : Bytes → List ClassFacts) (xs : List Bytes) → EachOf (λ s. list_any test (f s) ≡ true → list_any test (g s) ≡ true) xs → list_any test (each f xs) ≡ true → list_any test (each g xs) ≡ true
unfolding each
each-map test f g [] h e = e
each-map test f g (x ∷ xs) h e = go (any_cases test (f x) (each f xs) e) (each-map test f g xs h.1)
  where
    go : (list_any test (f x) ≡ true) ⊎ (list_any test (each f xs) ≡ true) → (list_any test (each f xs) ≡ true → list_any test (each g xs) ≡ true) → list_any test (g x ++ each g xs) ≡ true
    go (inl q) r = any_left test (g x) (each g xs) (h.0 q)
    go (inr q) r = any_right test (g x) (each g xs) (r q)

-- what one of the names gives, all of them give
pub each-any : {I : Type 0} (test : I → ClassFacts → Bool) (f : Bytes → List ClassFacts) (xs : List Bytes) → EachOf (λ s. (i : I) → list_any (test i) (f s) ≡ true → list_any (test i) (each f xs) ≡ true) xs
unfolding each
each-any test f [] = tt
each-any test f (x ∷ xs) = (λ i. any_left (test i) (f x) (each f xs), EachOf-map (λ s r i h. any_right (test i) (f x) (each f xs) (r i h)) xs (each-any test f xs))
