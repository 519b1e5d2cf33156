-- Of a list made of another, by `map` and by `flat_map`: whether an item passes, and which items it has.
use Rattle.std.proofs.Common.{◌≡◌, Bool, List, [], ◌∷◌, ◌++◌, map, refl, sym, ◌∙◌, ap, subst, ◌||◌, ◌⊎◌, inl, inr, Contains}
use Rattle.std.specs.List.{list_any, flat_map}
use Rattle.std.proofs.lemmas.List.Elements.{Contains-append_left, Contains-append_right, Contains-append_cases}
use Rattle.std.proofs.lemmas.List.Folds.{list_any-append}
use Rattle.jc_lemmas.proofs.Listed.{here, there, none, cases}

pub any-map : {A B : Type 0} (p : B → Bool) (h : A → B) (xs : List A) → list_any p (map h xs) ≡ list_any (λ x. p (h x)) xs
any-map p h [] = refl
any-map p h (x ∷ xs) = ap (λ b. p (h x) || b) (any-map p h xs)

pub any-flat : {A B : Type 0} (p : B → Bool) (g : A → List B) (xs : List A) → list_any p (flat_map g xs) ≡ list_any (λ x. list_any p (g x)) xs
any-flat p g [] = refl
any-flat p g (x ∷ xs) = list_any-append p (g x) (flat_map g xs) ∙ ap (λ b. list_any p (g x) || b) (any-flat p g xs)

pub in_flat : {A B : Type 0} (f : A → List B) (xs : List A) (a : A) (b : B) → Contains xs a → Contains (f a) b → Contains (flat_map f xs) b
in_flat f [] a b c k = absurd (none a c)
in_flat f (x ∷ xs) a b c k = go (cases x xs a c) (in_flat f xs a b)
  where
    go : (x ≡ a) ⊎ Contains xs a → (Contains xs a → Contains (f a) b → Contains (flat_map f xs) b) → Contains (f x ++ flat_map f xs) b
    go (inl e) r = Contains-append_left (f x) (flat_map f xs) b (subst (λ z. Contains (f z) b) (sym e) k)
    go (inr j) r = Contains-append_right (f x) (flat_map f xs) b (r j k)

pub of_flat : {A B : Type 0} (f : A → List B) (xs : List A) (b : B) → Contains (flat_map f xs) b → (a : A) × Contains xs a × Contains (f a) b
of_flat f [] b c = absurd (none b c)
of_flat f (x ∷ xs) b c = go (Contains-append_cases (f x) (flat_map f xs) b c) (of_flat f xs b)
  where
    go : Contains (f x) b ⊎ Contains (flat_map f xs) b → (Contains (flat_map f xs) b → (a : _) × Contains xs a × Contains (f a) b) → (a : _) × Contains (x ∷ xs) a × Contains (f a) b
    go (inl j) r = (x, here x xs, j)
    go (inr j) r = let q = r j in (q.0, there q.0 x xs q.1, q.2)

pub in_map : {A B : Type 0} (f : A → B) (xs : List A) (a : A) → Contains xs a → Contains (map f xs) (f a)
in_map f [] a c = absurd (none a c)
in_map f (x ∷ xs) a c = go (cases x xs a c) (in_map f xs a)
  where
    go : (x ≡ a) ⊎ Contains xs a → (Contains xs a → Contains (map f xs) (f a)) → Contains (f x ∷ map f xs) (f a)
    go (inl e) r = subst (λ z. Contains (f x ∷ map f xs) (f z)) e (here (f x) (map f xs))
    go (inr j) r = there (f a) (f x) (map f xs) (r j)

pub of_map : {A B : Type 0} (f : A → B) (xs : List A) (b : B) → Contains (map f xs) b → (a : A) × Contains xs a × (f a ≡ b)
of_map f [] b c = absurd (none b c)
of_map f (x ∷ xs) b c = go (cases (f x) (map f xs) b c) (of_map f xs b)
  where
    go : (f x ≡ b) ⊎ Contains (map f xs) b → (Contains (map f xs) b → (a : _) × Contains xs a × (f a ≡ b)) → (a : _) × Contains (x ∷ xs) a × (f a ≡ b)
    go (inl e) r = (x, here x xs, e)
    go (inr j) r = let q = r j in (q.0, there q.0 x xs q.1, q.2)
