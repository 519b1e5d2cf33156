-- What is in a list, and what holds of each of its elements.
use Rattle.std.proofs.Common.{◌≡◌, ◌<◌, Bool, true, false, ◌||◌, List, [], ◌∷◌, refl, subst, ◌⊎◌, inl, inr, arith, ◌++◌, cond, ◌∙◌, ap, sym}
use Rattle.std.specs.List.{Contains, list_any, filter, list_all}
use Rattle.std.proofs.lemmas.List.Elements.{Contains-append_left, Contains-append_right, Contains-append_cases, Contains-push, Contains-push_cases, All-weaker, All-contains_itself, recursion_from_All}
pub use Rattle.std.specs.List.{AllByRecursion as EachOf}
use Rattle.std.proofs.lemmas.Bool.{and_parts, or_left, or_right}

pub EachOf-map : {A : Type 0} {P Q : A → Type 0} → ((x : A) → P x → Q x) → (xs : List A) → EachOf P xs → EachOf Q xs
EachOf-map f [] h = tt
EachOf-map f (x ∷ xs) h = (f x h.0, EachOf-map f xs h.1)

pub here : {A : Type 0} (x : A) (xs : List A) → Contains (x ∷ xs) x
here x xs = Contains-append_left (x ∷ []) xs x (Contains-push [] x)

pub there : {A : Type 0} (x y : A) (xs : List A) → Contains xs x → Contains (y ∷ xs) x
there x y xs k = Contains-append_right (y ∷ []) xs x k

pub none : {A : Type 0} (x : A) → Contains [] x → ⊥
none x k = let l : k.0 < 0 = k.1 in omega arith

pub cases : {A : Type 0} (y : A) (xs : List A) (x : A) → Contains (y ∷ xs) x → (y ≡ x) ⊎ Contains xs x
cases y xs x k = go (Contains-append_cases (y ∷ []) xs x k)
  where
    go2 : Contains [] x ⊎ (y ≡ x) → (y ≡ x) ⊎ Contains xs x
    go2 (inl c) = absurd (none x c)
    go2 (inr e) = inl e

    go : Contains (y ∷ []) x ⊎ Contains xs x → (y ≡ x) ⊎ Contains xs x
    go (inl c) = go2 (Contains-push_cases [] y x c)
    go (inr c) = inr c

-- where none of a list passes a test, one of them doesn't
pub not_any : {A : Type 0} (p : A → Bool) (xs : List A) (x : A) → list_any p xs ≡ false → Contains xs x → p x ≡ false
not_any p [] x e k = absurd (none x k)
not_any p (y ∷ ys) x e k = go (p y) refl e (cases y ys x k) (not_any p ys x)
  where
    go : (b : Bool) → p y ≡ b → (b || list_any p ys) ≡ false → (y ≡ x) ⊎ Contains ys x → (list_any p ys ≡ false → Contains ys x → p x ≡ false) → p x ≡ false
    go true q e k more = absurd (cc)
    go false q e (inl same) more = rw (← same) q
    go false q e (inr c) more = more e c

pub each_in : {A : Type 0} (P : A → Type 0) (xs : List A) (x : A) → EachOf P xs → Contains xs x → P x
each_in P [] x h k = absurd (none x k)
each_in P (y ∷ ys) x h k = go (cases y ys x k) (each_in P ys x h.1)
  where
    go : (y ≡ x) ⊎ Contains ys x → (Contains ys x → P x) → P x
    go (inl is) more = subst P is h.0
    go (inr c) more = more c

pub EachOf-both : {A : Type 0} {P Q R : A → Type 0} → ((x : A) → P x → Q x → R x) → (xs : List A) → EachOf P xs → EachOf Q xs → EachOf R xs
EachOf-both f [] p q = tt
EachOf-both f (x ∷ xs) p q = (f x p.0 q.0, EachOf-both f xs p.1 q.1)

pub EachOf-append : {A : Type 0} (P : A → Type 0) (xs ys : List A) → EachOf P xs → EachOf P ys → EachOf P (xs ++ ys)
EachOf-append P [] ys p q = q
EachOf-append P (x ∷ xs) ys p q = (p.0, EachOf-append P xs ys p.1 q)

-- tests that agree at each element
pub list_any-same : {A : Type 0} (p q : A → Bool) (xs : List A) → EachOf (λ x. p x ≡ q x) xs → list_any p xs ≡ list_any q xs
list_any-same p q [] h = refl
list_any-same p q (x ∷ xs) h = rw (h.0, list_any-same p q xs h.1) refl

pub filter-same : {A : Type 0} (p q : A → Bool) (xs : List A) → EachOf (λ x. p x ≡ q x) xs → filter p xs ≡ filter q xs
filter-same p q [] h = refl
filter-same p q (x ∷ xs) h = rw (h.0, filter-same p q xs h.1) refl

pub list_all-each : {A : Type 0} (p : A → Bool) (xs : List A) → list_all p xs ≡ true → EachOf (λ x. p x ≡ true) xs
list_all-each p [] h = tt
list_all-each p (x ∷ xs) h = let q = and_parts (p x) (list_all p xs) h in (q.0, list_all-each p xs q.1)

pub filter-each : {A : Type 0} (P : A → Type 0) (p : A → Bool) (xs : List A) → EachOf P xs → EachOf P (filter p xs)
filter-each P p [] h = tt
filter-each P p (x ∷ xs) h = go (p x) (filter-each P p xs h.1)
  where
    go : (b : Bool) → EachOf P (filter p xs) → EachOf P (cond b (x ∷ filter p xs) (filter p xs))
    go true r = (h.0, r)
    go false r = r

-- what holds of all that is in the list
pub each_from : {A : Type 0} (P : A → Type 0) (xs : List A) → ((x : A) → Contains xs x → P x) → EachOf P xs
each_from P xs h = recursion_from_All P xs (All-weaker (Contains xs) P h xs (All-contains_itself xs))

pub any_has : {A : Type 0} (p : A → Bool) (xs : List A) (x : A) → Contains xs x → p x ≡ true → list_any p xs ≡ true
any_has p [] x c h = absurd (none x c)
any_has p (y ∷ ys) x c h = go (cases y ys x c) (any_has p ys x)
  where
    go : (y ≡ x) ⊎ Contains ys x → (Contains ys x → p x ≡ true → list_any p ys ≡ true) → (p y || list_any p ys) ≡ true
    go (inl e) more = or_left (p y) (list_any p ys) (ap p e ∙ h)
    go (inr k) more = or_right (p y) (list_any p ys) (more k h)

-- one of the list passes the test
pub record Passes {A : Type 0} (p : A → Bool) (xs : List A) : Type 0 where
  pub one : A
  pub is_in : Contains xs one
  pub passes : p one ≡ true

pub any_passes : {A : Type 0} (p : A → Bool) (xs : List A) → list_any p xs ≡ true → Passes p xs
any_passes p [] h = absurd (let clash : false ≡ true = h in cc)
any_passes p (x ∷ xs) h = go (p x) refl h (any_passes p xs)
  where
    go : (b : Bool) → p x ≡ b → (b || list_any p xs) ≡ true → (list_any p xs ≡ true → Passes p xs) → Passes p (x ∷ xs)
    go true e h more = record { one = x; is_in = here x xs; passes = e }
    go false e h more = let m : Passes p xs = more h in record { one = m.one; is_in = there m.one x xs m.is_in; passes = m.passes }

pub in_filter : {A : Type 0} (p : A → Bool) (xs : List A) (x : A) → Contains (filter p xs) x → Contains xs x × (p x ≡ true)
in_filter p [] x c = absurd (none x c)
in_filter p (y ∷ ys) x c = go (p y) refl c (in_filter p ys x)
  where
    further : Contains ys x × (p x ≡ true) → Contains (y ∷ ys) x × (p x ≡ true)
    further r = (there x y ys r.0, r.1)

    go : (b : Bool) → p y ≡ b → Contains (cond b (y ∷ filter p ys) (filter p ys)) x → (Contains (filter p ys) x → Contains ys x × (p x ≡ true)) → Contains (y ∷ ys) x × (p x ≡ true)
    go true e c more = by (cases y (filter p ys) x c)
      where
        by : (y ≡ x) ⊎ Contains (filter p ys) x → Contains (y ∷ ys) x × (p x ≡ true)
        by (inl i) = (subst (Contains (y ∷ ys)) i (here y ys), ap p (sym i) ∙ e)
        by (inr k) = further (more k)
    go false e c more = further (more c)

pub filter_in : {A : Type 0} (p : A → Bool) (xs : List A) (x : A) → Contains xs x → p x ≡ true → Contains (filter p xs) x
filter_in p [] x c h = absurd (none x c)
filter_in p (y ∷ ys) x c h = go (p y) refl (cases y ys x c) (filter_in p ys x)
  where
    go : (b : Bool) → p y ≡ b → (y ≡ x) ⊎ Contains ys x → (Contains ys x → p x ≡ true → Contains (filter p ys) x) → Contains (cond b (y ∷ filter p ys) (filter p ys)) x
    go true e (inl i) more = subst (Contains (y ∷ filter p ys)) i (here y (filter p ys))
    go true e (inr k) more = there x y (filter p ys) (more k h)
    go false e (inl i) more = absurd (let z : false ≡ true = sym e ∙ ap p i ∙ h in cc)
    go false e (inr k) more = more k h

pub empty_from : {A : Type 0} (xs : List A) → ((x : A) → Contains xs x → ⊥) → xs ≡ []
empty_from [] h = refl
empty_from (x ∷ xs) h = absurd (h x (here x xs))

pub each_of : {A : Type 0} (P : A → Type 0) → ((x : A) → P x) → (xs : List A) → EachOf P xs
each_of P h [] = tt
each_of P h (x ∷ xs) = (h x, each_of P h xs)

pub any_none : {A : Type 0} (test : A → Bool) (xs : List A) → EachOf (λ x. test x ≡ false) xs → list_any test xs ≡ false
any_none test [] h = refl
any_none test (x ∷ xs) h = rw (h.0, any_none test xs h.1) refl
