-- Names of two clients, as they are looked for.
use mathlib.Core.Path.{fun_ext}
use Rattle.std.proofs.Common.{◌≡◌, Bool, true, false, not, ◌&&◌, ◌||◌, List, [], ◌∷◌, refl, sym, ◌∙◌, ap, subst, Option, Some, None, is_some, ◌⊎◌, inl, inr, Bor}
use Rattle.std.proofs.lemmas.Bool.{and_parts, and_from, both_ways, or_cases, or_left, or_right}
use Rattle.std.proofs.Math.Bool.{and-true, and-false, or-false}
use Rattle.std.specs.List.{list_any}
use Rattle.std.specs.Option.{option_copied}
use Rattle.std.specs.List.Sorted.{IsPermutation}
use Rattle.jc_facts.specs.declared.class_facts.ClassFacts.{ClassFacts}
use Rattle.jc_facts.specs.Names.{Bytes, same, is_name_among}
use Rattle.jc_facts.specs.Options.{and_then}
use Rattle.jc_facts.specs.world.World.{World, find_class}
use Rattle.jc_facts.specs.world.Mentioned.{permitted}
use Rattle.jc_promises.specs.rule.Apart.{has_other, permits_of}
use Rattle.jc_promises.specs.rule.Bases.{allowed}
use Rattle.jc_promises.specs.plan.PlannedNames.{least_name, leaves_another, permitted_name, permitted_beside, permitted_other}
use Rattle.jc_facts.proofs.Same.{same_is}
use Rattle.jc_sides.specs.SidesOf.{SidesOf}
use Rattle.jc_complete.proofs.PlanBase.{least_name-is, least_name-some}
use Rattle.jc_complete.proofs.PlanInterfaceMethodLost.{same_back}
use Rattle.jc_lemmas.proofs.Bools.{neither_first, neither_last}
use Rattle.jc_drafts.proofs.LowestOfNames.{tests_alike}
use Rattle.jc_drafts.proofs.PermittedNames.{by_set}

-- the value behind a reference is there where that is
pub copied_some : {T : Type 0} (o : Option (Bor T)) → is_some (option_copied o) ≡ is_some o
copied_some None = refl
copied_some (Some x) = refl

-- ---- tests of names

least_none : (test : Bytes → Bool) (xs : List Bytes) → least_name test xs ≡ None → list_any test xs ≡ false
least_none test xs e = go (list_any test xs) refl
  where
    go : (b : Bool) → list_any test xs ≡ b → b ≡ false
    go false q = refl
    go true q = absurd (let k = least_name-some test xs q in let z : None ≡ Some k.0 = sym e ∙ k.1 in cc)

least_false : (test : Bytes → Bool) → ((x : Bytes) → test x ≡ false) → (xs : List Bytes) → least_name test xs ≡ None
unfolding least_name
least_false test h [] = refl
least_false test h (x ∷ xs) = rw (h x) (least_false test h xs)

-- a name among these passes
any_at : (test : Bytes → Bool) (xs : List Bytes) (y : Bytes) → is_name_among xs y ≡ true → test y ≡ true → list_any test xs ≡ true
any_at test [] y i t = absurd (let z : false ≡ true = i in cc)
any_at test (x ∷ xs) y i t = go (or_cases (same x y) (is_name_among xs y) i) (any_at test xs y)
  where
    go : (same x y ≡ true) ⊎ (is_name_among xs y ≡ true) → (is_name_among xs y ≡ true → test y ≡ true → list_any test xs ≡ true) → (test x || list_any test xs) ≡ true
    go (inl e) more = or_left (test x) (list_any test xs) (subst (λ z. test z ≡ true) (sym (same_is x y e)) t)
    go (inr e) more = or_right (test x) (list_any test xs) (more e t)

-- where none passes one test, none passes one that says more
none_more : (p q : Bytes → Bool) → ((x : Bytes) → q x ≡ true → p x ≡ true) → (xs : List Bytes) → list_any p xs ≡ false → list_any q xs ≡ false
none_more p q h [] n = refl
none_more p q h (x ∷ xs) n = go (q x) refl (none_more p q h xs (neither_last (p x) (list_any p xs) n))
  where
    go : (b : Bool) → q x ≡ b → list_any q xs ≡ false → (b || list_any q xs) ≡ false
    go false e more = more
    go true e more = absurd (both_ways (p x) (neither_first (p x) (list_any p xs) n) (h x e))

-- ---- what others leave

module _ (s : SidesOf) (ys : List Bytes) where
  abbrev counts : Bytes → Bool
  counts x = allowed s.old s.new x

  abbrev left : List Bytes → Bytes → Bool
  left others x = counts x && not (is_name_among others x)

  abbrev leaves : Bytes → Bool
  leaves x = counts x && has_other s.old s.new x ys

  -- no allowed name
  no_other : least_name (left []) ys ≡ None → (x : Bytes) → has_other s.old s.new x ys ≡ false
  no_other e x = none_more (left []) (λ y. counts y && not (same x y)) (λ y h. and_from (counts y) true (and_parts (counts y) (not (same x y)) h).0 refl) ys (least_none (left []) ys e)

  module _ (only : Bytes) (least : least_name (left []) ys ≡ Some only) where
    is_only : (counts only ≡ true) × (is_name_among ys only ≡ true)
    is_only = let k = least_name-is (left []) ys only least in ((and_parts (counts only) true k.0).0, k.1)

    -- it is left to each other name
    left_to_others : (x : Bytes) → same only x ≡ false → has_other s.old s.new x ys ≡ true
    left_to_others x n = any_at (λ y. counts y && not (same x y)) ys only is_only.1 (and_from (counts only) (not (same x only)) is_only.0 (ap not (same_back only x n)))

    -- where there is another one, there is one beside each name
    more_left : (other : Bytes) → least_name (left (only ∷ [])) ys ≡ Some other → (x : Bytes) → has_other s.old s.new x ys ≡ true
    more_left other e x = go (same only x) refl
      where
        k : (left (only ∷ []) other ≡ true) × (is_name_among ys other ≡ true)
        k = least_name-is (left (only ∷ [])) ys other e

        p : (counts other ≡ true) × (not (same only other || false) ≡ true)
        p = and_parts (counts other) (not (is_name_among (only ∷ []) other)) k.0

        go : (b : Bool) → same only x ≡ b → has_other s.old s.new x ys ≡ true
        go false q = left_to_others x q
        go true q = any_at (λ y. counts y && not (same x y)) ys other k.1 (and_from (counts other) (not (same x other)) p.0 (subst (λ z. not (same z other) ≡ true) (same_is only x q) (ap not (sym (or-false (same only other))) ∙ p.1)))

    -- else there is one beside each name but it
    one_left : least_name (left (only ∷ [])) ys ≡ None → (x : Bytes) → has_other s.old s.new x ys ≡ not (is_name_among (only ∷ []) x)
    one_left e x = go (same only x) refl
      where
        go : (b : Bool) → same only x ≡ b → has_other s.old s.new x ys ≡ not (b || false)
        go false q = left_to_others x q
        go true q = none_more (left (only ∷ [])) (λ y. counts y && not (same x y)) (λ y h. let p = and_parts (counts y) (not (same x y)) h in and_from (counts y) (not (same only y || false)) p.0 (ap not (or-false (same only y)) ∙ subst (λ z. not (same z y) ≡ true) (sym (same_is only x q)) p.1)) ys (least_none (left (only ∷ [])) ys e)

  -- ---- which of some names leaves another

  module _ (names none : List Bytes) (empty : IsPermutation [] none) where
    pub of_no_other : None ≡ least_name (left none) ys → None ≡ least_name leaves names
    of_no_other e = sym (least_false leaves (λ x. ap (λ b. counts x && b) (no_other (sym (by_set s [] none ys empty) ∙ sym e) x) ∙ and-false (counts x)) names)

    module _ (only : Bytes) (found : Some only ≡ least_name (left none) ys) (taken : List Bytes) (one : IsPermutation (only ∷ []) taken) where
      least_is : least_name (left []) ys ≡ Some only
      least_is = sym (by_set s [] none ys empty) ∙ sym found

      pub of_more : (other : Option Bytes) → other ≡ least_name (left taken) ys → is_some other ≡ true → (result : Option Bytes) → result ≡ least_name (left none) names → result ≡ least_name leaves names
      of_more None e h result q = absurd (cc)
      of_more (Some y) e h result q = q ∙ by_set s [] none names empty ∙ tests_alike (left []) leaves (λ x. ap (λ b. counts x && b) (sym (more_left only least_is y (sym (by_set s (only ∷ []) taken ys one) ∙ sym e) x))) names

      pub of_one : (other : Option Bytes) → other ≡ least_name (left taken) ys → is_some other ≡ false → (result : Option Bytes) → result ≡ least_name (left taken) names → result ≡ least_name leaves names
      of_one None e h result q = q ∙ by_set s (only ∷ []) taken names one ∙ tests_alike (left (only ∷ [])) leaves (λ x. ap (λ b. counts x && b) (sym (one_left only least_is (sym (by_set s (only ∷ []) taken ys one) ∙ sym e) x))) names
      of_one (Some y) e h result q = absurd (cc)

-- where a class leaves any name
pub of_any : (s : SidesOf) (names none : List Bytes) → IsPermutation [] none → (result : Option Bytes) → result ≡ least_name (λ x. allowed s.old s.new x && not (is_name_among none x)) names
    → (p : Option (List Bytes)) → p ≡ None → result ≡ least_name (λ x. allowed s.old s.new x && leaves_another s.old s.new x p) names
of_any s names none empty result e p q = e ∙ by_set s [] none names empty ∙ ap (λ (o : Option (List Bytes)). least_name (λ x. allowed s.old s.new x && leaves_another s.old s.new x o) names) (sym q)

-- ---- of classes

module _ (s : SidesOf) (W : World) (old : W ≡ s.old) (a : Bytes) where
  -- the other one isn't there
  pub no_beside : (b : Bytes) → None ≡ find_class W b → (result : Option Bytes) → result ≡ permitted_name s.old s.new a → result ≡ permitted_beside s.old s.new a b
  unfolding and_then
  no_beside b e result q =
      let absent : find_class s.old b ≡ None = ap (λ V. find_class V b) (sym old) ∙ sym e in
      q ∙ ap (λ (test : Bytes → Bool). and_then (λ (c : ClassFacts). least_name test (permitted c.permits)) (find_class s.old a)) (fun_ext (λ x. sym (and-true (allowed s.old s.new x))))
      ∙ ap (λ (o : Option ClassFacts). and_then (λ (c : ClassFacts). least_name (λ x. allowed s.old s.new x && leaves_another s.old s.new x (and_then (λ (z : ClassFacts). z.permits) o)) (permitted c.permits)) (find_class s.old a)) (sym absent)

  pub no_class_beside : (b : Bytes) → None ≡ find_class W a → None ≡ permitted_beside s.old s.new a b
  unfolding and_then
  no_class_beside b e = rw (← old) (rw (← e) refl)

  pub of_class_beside : (b : Bytes) (c d : ClassFacts) (names : List Bytes) (result : Option Bytes) → Some d ≡ find_class W b → Some c ≡ find_class W a → names ≡ permitted c.permits
      → result ≡ least_name (λ x. allowed s.old s.new x && leaves_another s.old s.new x d.permits) names → result ≡ permitted_beside s.old s.new a b
  unfolding and_then
  of_class_beside b c d names result f e n q =
      q ∙ ap (least_name (λ x. allowed s.old s.new x && leaves_another s.old s.new x d.permits)) n
      ∙ ap (λ (o : Option ClassFacts). least_name (λ x. allowed s.old s.new x && leaves_another s.old s.new x (and_then (λ (z : ClassFacts). z.permits) o)) (permitted c.permits)) (f ∙ ap (λ V. find_class V b) old)
      ∙ ap (λ (o : Option ClassFacts). and_then (λ (z : ClassFacts). least_name (λ x. allowed s.old s.new x && leaves_another s.old s.new x (permits_of s.old b)) (permitted z.permits)) o) (e ∙ ap (λ V. find_class V a) old)

  pub no_class_other : (x : Bytes) → None ≡ find_class W a → None ≡ permitted_other s.old s.new x a
  unfolding and_then
  no_class_other x e = rw (← old) (rw (← e) refl)

  pub of_class_other : (x : Bytes) (c : ClassFacts) (names taken : List Bytes) (result : Option Bytes) → Some c ≡ find_class W a → names ≡ permitted c.permits → IsPermutation (x ∷ []) taken
      → result ≡ least_name (λ y. allowed s.old s.new y && not (is_name_among taken y)) names → result ≡ permitted_other s.old s.new x a
  unfolding and_then
  of_class_other x c names taken result e n one q =
      q ∙ by_set s (x ∷ []) taken names one
      ∙ tests_alike (λ y. allowed s.old s.new y && not (is_name_among (x ∷ []) y)) (λ y. allowed s.old s.new y && not (same x y)) (λ y. ap (λ b. allowed s.old s.new y && not b) (or-false (same x y))) names
      ∙ ap (least_name (λ y. allowed s.old s.new y && not (same x y))) n
      ∙ ap (λ (o : Option ClassFacts). and_then (λ (z : ClassFacts). least_name (λ y. allowed s.old s.new y && not (same x y)) (permitted z.permits)) o) (e ∙ ap (λ V. find_class V a) old)
