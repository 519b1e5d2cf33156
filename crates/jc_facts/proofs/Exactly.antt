-- Exact lists, made by a loop over an exact list.
--     exact_over      what a test gives of each thing of the list
--     grown_start, grown_more, grown_all      what stands on one name after another, joined
use Rattle.std.proofs.Common.{◌≡◌, ◌<◌, ◌≤◌, ◌+◌, ℕ, List, [], ◌∷◌, ◌++◌, length, get_or, refl, sym, subst, take, drop, Option, Some, None, ◌⊎◌, inl, inr}
use Rattle.std.specs.List.{Contains, filter_map, cons_option}
use Rattle.std.specs.declared.cmp.Ordering.{Ordering}
use Rattle.std.specs.declared.cmp.Ordering.TheVariants.{Less}
use Rattle.std.proofs.lemmas.List.{take_more, take_all, take-append-drop}
use Rattle.std.proofs.lemmas.List.Elements.{All-weaker, All-contains_itself, Contains-append_left, Contains-append_right, Contains-append_cases, recursion_from_All}
use Rattle.jc_facts.specs.Names.{Bytes}
use Rattle.jc_facts.specs.Exactly.{Before, NamesRise}
use Rattle.jc_facts.specs.Exactly.{Rises, HasExactly}
use Rattle.jc_facts.proofs.Exact.{given, given_back}
use Rattle.jc_lemmas.proofs.Listed.{EachOf, here, none, cases, each_in}
use Rattle.jc_facts.proofs.InOrder.{exact_none, exact_same, exact_append}

-- ---- one list over another

-- what gives the thing
pub record GivenBy {A F : Type 0} (P : A → Type 0) (h : A → Option F) (f : F) : Type 0 where
  pub place : A
  pub stands : P place
  pub gives : h place ≡ Some f

module _ {A F : Type 0} (before : A → A → Ordering) (order : F → F → Ordering) (h : A → Option F) (later : (a b : A) (f g : F) → before a b ≡ Less → h a ≡ Some f → h b ≡ Some g → order f g ≡ Less) where
  after : (a : A) (f : F) → h a ≡ Some f → (xs : List A) → EachOf (λ b. before a b ≡ Less) xs → EachOf (λ g. order f g ≡ Less) (filter_map h xs)
  after a f e [] b = tt
  after a f e (y ∷ ys) b = go (h y) refl (after a f e ys b.1)
    where
      go : (o : Option F) → h y ≡ o → EachOf (λ g. order f g ≡ Less) (filter_map h ys) → EachOf (λ g. order f g ≡ Less) (cons_option o (filter_map h ys))
      go None q r = r
      go (Some g) q r = (later a y f g b.0 e q, r)

  over_rise : (xs : List A) → Rises before xs → Rises order (filter_map h xs)
  unfolding Rises
  over_rise [] r = tt
  over_rise (x ∷ xs) r = go (h x) refl (over_rise xs r.1)
    where
      go : (o : Option F) → h x ≡ o → Rises order (filter_map h xs) → Rises order (cons_option o (filter_map h xs))
      go None e s = s
      go (Some f) e s = (after x f e xs r.0, s)

  pub exact_over : (P : A → Type 0) (Stand : F → Type 0) (xs : List A) → HasExactly before P xs → ((a : A) (f : F) → P a → h a ≡ Some f → Stand f) → ((f : F) → Stand f → GivenBy P h f)
      → HasExactly order Stand (filter_map h xs)
  exact_over P Stand xs e sound complete = record {
    in_order = over_rise xs e.in_order;
    sound = All-weaker (Contains (filter_map h xs)) Stand listed (filter_map h xs) (All-contains_itself (filter_map h xs));
    complete = λ f s. let g = complete f s in given h xs g.place f (e.complete g.place g.stands) g.gives;
  }
    where
      listed : (f : F) → Contains (filter_map h xs) f → Stand f
      listed f c =
          let g = given_back h xs f c in
          sound g.place f (each_in P xs g.place (recursion_from_All P xs e.sound) g.is_in) g.gives

-- ---- one list after another

pub rise_front : (xs ys : List Bytes) → NamesRise (λ x. x) (xs ++ ys) → NamesRise (λ x. x) xs
unfolding Rises
rise_front [] ys r = tt
rise_front (x ∷ xs) ys r = (front xs r.0, rise_front xs ys r.1)
  where
    front : (zs : List Bytes) → EachOf (λ y. Before x y) (zs ++ ys) → EachOf (λ y. Before x y) zs
    front [] h = tt
    front (z ∷ zs) h = (h.0, front zs h.1)

-- each name of the front is before the last
rise_split : (xs : List Bytes) (y : Bytes) → NamesRise (λ x. x) (xs ++ y ∷ []) → (x : Bytes) → Contains xs x → Before x y
unfolding Rises
rise_split [] y r x c = absurd (none x c)
rise_split (z ∷ xs) y r x c = go (cases z xs x c) (rise_split xs y r.1 x)
  where
    first : Before z y
    first = each_in (λ w. Before z w) (xs ++ y ∷ []) y r.0 (Contains-append_right xs (y ∷ []) y (here y []))

    go : (z ≡ x) ⊎ Contains xs x → (Contains xs x → Before x y) → Before x y
    go (inl is) k = subst (λ (w : Bytes). Before w y) is first
    go (inr d) k = k d

-- what stands, and is on one of these names
abbrev pub OfNames : {F : Type 0} (name : F → Bytes) (Stand : F → Type 0) → List Bytes → F → Type 0
OfNames name Stand xs f = Contains xs (name f) × Stand f

-- what stands, and is on this name
abbrev pub OfName : {F : Type 0} (name : F → Bytes) (Stand : F → Type 0) → Bytes → F → Type 0
OfName name Stand x f = (name f ≡ x) × Stand f

-- the names rise, and of what stands the name decides the order
module _ {F : Type 0} (order : F → F → Ordering) (name : F → Bytes) (Stand : F → Type 0) (apart : (f g : F) → Stand f → Stand g → Before (name f) (name g) → order f g ≡ Less) (xs : List Bytes) (rise : NamesRise (λ x. x) xs) where
  -- before the first name
  pub grown_start : (fs : List F) → fs ≡ [] → HasExactly order (OfNames name Stand []) fs
  grown_start fs e = subst (HasExactly order (OfNames name Stand [])) (sym e) (exact_none order (OfNames name Stand []) (λ f p. none (name f) p.0))

  one_more : (n : ℕ) → n < length xs → take (n + 1) xs ≡ take n xs ++ get_or xs n [] ∷ []
  one_more n l = take_more xs n [] l

  before : (n : ℕ) → n < length xs → (x : Bytes) → Contains (take n xs) x → Before x (get_or xs n [])
  before n l = rise_split (take n xs) (get_or xs n []) (subst (NamesRise (λ x. x)) (one_more n l) (rise_front (take (n + 1) xs) (drop (n + 1) xs) (subst (NamesRise (λ x. x)) (sym (take-append-drop (n + 1) xs)) rise)))

  -- one more name
  pub grown_more : (n : ℕ) (fs more gs : List F) → n < length xs → HasExactly order (OfNames name Stand (take n xs)) fs → HasExactly order (OfName name Stand (get_or xs n [])) more → gs ≡ fs ++ more
      → HasExactly order (OfNames name Stand (take (n + 1) xs)) gs
  grown_more n fs more gs l h k e =
      subst (HasExactly order (OfNames name Stand (take (n + 1) xs))) (sym e)
      (exact_same order (λ f. OfNames name Stand (take n xs) f ⊎ OfName name Stand (get_or xs n []) f) (OfNames name Stand (take (n + 1) xs)) (fs ++ more) to from
      (exact_append order (OfNames name Stand (take n xs)) (OfName name Stand (get_or xs n [])) fs more h k (λ f g p q. apart f g p.1 q.1 (subst (λ (y : Bytes). Before (name f) y) (sym q.0) (before n l (name f) p.0)))))
    where
      to : (f : F) → OfNames name Stand (take n xs) f ⊎ OfName name Stand (get_or xs n []) f → OfNames name Stand (take (n + 1) xs) f
      to f (inl p) = (subst (λ (ys : List Bytes). Contains ys (name f)) (sym (one_more n l)) (Contains-append_left (take n xs) (get_or xs n [] ∷ []) (name f) p.0), p.1)
      to f (inr q) = (subst (λ (ys : List Bytes). Contains ys (name f)) (sym (one_more n l)) (Contains-append_right (take n xs) (get_or xs n [] ∷ []) (name f) (subst (Contains (get_or xs n [] ∷ [])) (sym q.0) (here (get_or xs n []) []))), q.1)

      from : (f : F) → OfNames name Stand (take (n + 1) xs) f → OfNames name Stand (take n xs) f ⊎ OfName name Stand (get_or xs n []) f
      from f p = go (Contains-append_cases (take n xs) (get_or xs n [] ∷ []) (name f) (subst (λ (ys : List Bytes). Contains ys (name f)) (one_more n l) p.0))
        where
          last : (get_or xs n [] ≡ name f) ⊎ Contains [] (name f) → name f ≡ get_or xs n []
          last (inl is) = sym is
          last (inr c) = absurd (none (name f) c)

          go : Contains (take n xs) (name f) ⊎ Contains (get_or xs n [] ∷ []) (name f) → OfNames name Stand (take n xs) f ⊎ OfName name Stand (get_or xs n []) f
          go (inl c) = inl (c, p.1)
          go (inr c) = inr (last (cases (get_or xs n []) [] (name f) c), p.1)

  -- all names
  pub grown_all : (n : ℕ) (fs : List F) → length xs ≤ n → ((f : F) → Stand f → Contains xs (name f)) → HasExactly order (OfNames name Stand (take n xs)) fs → HasExactly order Stand fs
  grown_all n fs l named h =
      exact_same order (OfNames name Stand (take n xs)) Stand fs (λ f p. p.1)
      (λ f p. (subst (λ (ys : List Bytes). Contains ys (name f)) (sym (take_all n xs l)) (named f p), p)) h
