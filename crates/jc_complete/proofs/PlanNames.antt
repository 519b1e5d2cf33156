-- Names in a package that no name of a side begins with are class names and allowed; and what a platform, two releases and their fresh package are.
use Rattle.std.proofs.Common.{◌≡◌, ℕ, ◌<◌, Bool, true, false, cond, List, [], ◌∷◌, ◌++◌, length, refl, sym, ◌∙◌, ap, subst, Option, Some, None, is_some, ◌||◌, ◌==◌, ◌⊎◌, inl, inr, nat_le, nat_lt, nat_eq, lit<, arith}
use Rattle.std.proofs.lemmas.Bool.{and_from, both_ways, or_cases, lt-ltb, le-leb, ne_eqb, or_left, or_right}
use Rattle.std.proofs.lemmas.Map.Views.{exact_unsigned_eq}
use Rattle.std.proofs.lemmas.List.{length-append}
use Rattle.std.proofs.lemmas.List.Folds.{list_any-append}
use Rattle.std.proofs.lemmas.Fmt.{length-decimal-le_wide}
use Rattle.std.specs.Str.{is_utf8}
use Rattle.std.specs.Fmt.{decimal}
use Rattle.std.specs.List.{list_any, starts_with}
use Rattle.jc_desc.specs.Names.{spells_class_name, is_rest_of_name}
use Rattle.jc_desc.specs.Utf8.{is_modified_utf8}
use Rattle.jc_facts.specs.declared.class_facts.ClassFacts.{ClassFacts}
use Rattle.jc_facts.specs.Names.{Bytes, same, is_name_among, in_same_package, package_name}
use Rattle.jc_facts.specs.world.Search.{supers}
use Rattle.jc_facts.specs.world.World.{World, find_class, classes}
use Rattle.jc_facts.specs.file.Valid.{is_valid_name}
use Rattle.jc_facts.specs.client.Allowed.{is_allowed_name, has_package}
use Rattle.jc_facts.specs.world.Mentioned.{is_named_above, permitted, mentions}
use Rattle.jc_promises.specs.plan.PlannedNames.{in_package}
use Rattle.jc_lemmas.proofs.Listed.{EachOf, EachOf-map, EachOf-append}
use Rattle.jc_facts.proofs.Same.{same_is, same_itself}
use Rattle.jc_facts.proofs.World.{find-name, any-named}
use Rattle.jc_lemmas.proofs.Bools.{neither_first, neither_last}
use Rattle.jc_sound.proofs.Examples.{ascii}
use Rattle.jc_complete.proofs.PlanGround.{is_letter, letter}
use Rattle.jc_complete.proofs.PlanPackage.{IsDigit, digits_of_number, IsFree, begins_again}

-- ---- the four letters

each_letter : (P : ℕ → Type 0) → P 74 → P 85 → P 89 → P 90 → (l : ℕ) → is_letter l ≡ true → P l
each_letter P a b c d l h = first (or_cases (l == 74 || l == 85 || l == 89) (l == 90) h)
  where
    at : (n : ℕ) → (l == n) ≡ true → P n → P l
    at n e p = subst P (sym (exact_unsigned_eq l n e)) p

    third : ((l == 74) ≡ true) ⊎ ((l == 85) ≡ true) → P l
    third (inl e) = at 74 e a
    third (inr e) = at 85 e b

    second : ((l == 74 || l == 85) ≡ true) ⊎ ((l == 89) ≡ true) → P l
    second (inl e) = third (or_cases (l == 74) (l == 85) e)
    second (inr e) = at 89 e c

    first : ((l == 74 || l == 85 || l == 89) ≡ true) ⊎ ((l == 90) ≡ true) → P l
    first (inl e) = second (or_cases (l == 74 || l == 85) (l == 89) e)
    first (inr e) = at 90 e d

-- ---- names of digits

digits_name : (ds rest : Bytes) → EachOf IsDigit ds → is_rest_of_name false rest ≡ true → is_rest_of_name false (ds ++ rest) ≡ true
digits_name [] rest h k = k
digits_name (c ∷ cs) rest h k =
    let a : nat_eq c 46 ≡ false = ne_eqb c 46 (λ e. omega (arith, h.0.0, e)) in
    let b : nat_eq c 59 ≡ false = ne_eqb c 59 (λ e. omega (arith, h.0.1, e)) in
    let d : nat_eq c 91 ≡ false = ne_eqb c 91 (λ e. omega (arith, h.0.1, e)) in
    let g : nat_eq c 47 ≡ false = ne_eqb c 47 (λ e. omega (arith, h.0.0, e)) in
    rw (a, b, d, g) (digits_name cs rest h.1 k)

digits_text : (ds rest : Bytes) → EachOf IsDigit ds → is_modified_utf8 rest ≡ true → is_modified_utf8 (ds ++ rest) ≡ true
digits_text [] rest h k = k
digits_text (c ∷ cs) rest h k =
    let a : nat_lt c 128 ≡ true = lt-ltb c 128 (omega (arith, h.0.1)) in
    let b : nat_eq c 0 ≡ false = ne_eqb c 0 (λ e. omega (arith, h.0.0, e)) in
    rw (a, b) (digits_text cs rest h.1 k)

small_digits : (ds : Bytes) → EachOf IsDigit ds → EachOf (λ c. c < 128) ds
small_digits ds h = EachOf-map (λ c k. omega (arith, k.1)) ds h

-- the package of a name
package_at : (a b : Bytes) → list_any (λ y. y == 47) b ≡ false → package_name (a ++ 47 ∷ b) ≡ a
unfolding package_name
package_at [] b h = rw h refl
package_at (x ∷ xs) b h = let s : list_any (λ y. y == 47) (xs ++ 47 ∷ b) ≡ true = list_any-append (λ y. y == 47) xs (47 ∷ b) ∙ or_right (list_any (λ y. y == 47) xs) true refl in rw (s, package_at xs b h) refl

-- a name begins with its package
begins_package : (x y : Bytes) (c : ℕ) (w : Bytes) → package_name y ≡ c ∷ w → (rest : Bytes) × (y ≡ in_package (c ∷ w) [] ++ rest)
unfolding package_name
begins_package x [] c w h = absurd (cc)
begins_package x (z ∷ zs) c w h = go (list_any (λ y. y == 47) zs) refl h w refl (λ d u e. begins_package x zs d u e)
  where
    last : (zs : Bytes) → list_any (λ y. y == 47) zs ≡ true → package_name zs ≡ [] → (rest : Bytes) × (zs ≡ 47 ∷ rest)
    last [] p q = absurd (let e : false ≡ true = p in cc)
    last (y ∷ ys) p q = by (list_any (λ y. y == 47) ys) refl q
      where
        by : (b : Bool) → list_any (λ y. y == 47) ys ≡ b → cond b (y ∷ package_name ys) [] ≡ [] → (rest : Bytes) × (y ∷ ys ≡ 47 ∷ rest)
        by true e q = absurd (cc)
        by false e q = (ys, ap (λ n. n ∷ ys) (exact_unsigned_eq y 47 (or_else_first (y == 47) (list_any (λ y. y == 47) ys) e p)))
          where
            or_else_first : (a b : Bool) → b ≡ false → (a || b) ≡ true → a ≡ true
            or_else_first true b e p = refl
            or_else_first false b e p = absurd (both_ways b e p)

    go : (b : Bool) → list_any (λ y. y == 47) zs ≡ b → cond b (z ∷ package_name zs) [] ≡ c ∷ w → (v : Bytes) → w ≡ v → ((d : ℕ) (u : Bytes) → package_name zs ≡ d ∷ u → (rest : Bytes) × (zs ≡ in_package (d ∷ u) [] ++ rest)) → (rest : Bytes) × (z ∷ zs ≡ in_package (c ∷ w) [] ++ rest)
    go false e q v p r = absurd (cc)
    go true e q [] p r =
        let a : z ≡ c = cc in
        let b : package_name zs ≡ [] = let b0 : package_name zs ≡ w = cc in b0 ∙ p in
        let t = last zs e b in
        (t.0, ap (λ n. n ∷ zs) a ∙ ap (λ ns. c ∷ ns) t.1 ∙ ap (λ v. c ∷ (in_package v [] ++ t.0)) (sym p))
    go true e q (d ∷ u) p r =
        let a : z ≡ c = cc in
        let b : package_name zs ≡ d ∷ u = let b0 : package_name zs ≡ w = cc in b0 ∙ p in
        let t = r d u b in
        (t.0, ap (λ n. n ∷ zs) a ∙ ap (λ ns. c ∷ ns) t.1 ∙ ap (λ v. c ∷ (in_package v [] ++ t.0)) (sym p))

-- ---- a free package

module _ (names : List Bytes) (w : Bytes) (f : IsFree names w) where
  abbrev ds : Bytes
  ds = decimal f.number

  digits : EachOf IsDigit ds
  digits = digits_of_number f.number f.small

  as_name : (l : ℕ) → is_letter l ≡ true → is_valid_name (119 ∷ (ds ++ 47 ∷ l ∷ [])) ≡ true
  as_name l h = each_letter (λ l. is_valid_name (119 ∷ (ds ++ 47 ∷ l ∷ [])) ≡ true) (both 74 refl refl) (both 85 refl refl) (both 89 refl refl) (both 90 refl refl) l h
    where
      both : (l : ℕ) → is_rest_of_name false (47 ∷ l ∷ []) ≡ true → is_modified_utf8 (47 ∷ l ∷ []) ≡ true → is_valid_name (119 ∷ (ds ++ 47 ∷ l ∷ [])) ≡ true
      both l p q = and_from (spells_class_name (119 ∷ (ds ++ 47 ∷ l ∷ []))) (is_modified_utf8 (119 ∷ (ds ++ 47 ∷ l ∷ []))) (digits_name ds (47 ∷ l ∷ []) digits p) (digits_text ds (47 ∷ l ∷ []) digits q)

  pub free_name : (l : ℕ) → is_letter l ≡ true → is_valid_name (letter w l) ≡ true
  free_name l h = subst (λ z. is_valid_name (letter z l) ≡ true) (sym f.is) (as_name l h)

  free_utf8 : (l : ℕ) → is_letter l ≡ true → is_utf8 (letter w l) ≡ true
  free_utf8 l h = subst (λ z. is_utf8 (letter z l) ≡ true) (sym f.is) (each_letter (λ l. is_utf8 (119 ∷ (ds ++ 47 ∷ l ∷ [])) ≡ true) (at 74 (lit< tt)) (at 85 (lit< tt)) (at 89 (lit< tt)) (at 90 (lit< tt)) l h)
    where
      at : (l : ℕ) → l < 128 → is_utf8 (119 ∷ (ds ++ 47 ∷ l ∷ [])) ≡ true
      at l k = ascii (119 ∷ (ds ++ 47 ∷ l ∷ [])) (lit< tt, EachOf-append (λ c. c < 128) ds (47 ∷ l ∷ []) (small_digits ds digits) (lit< tt, (k, tt)))

  free_length : (l : ℕ) → nat_le (length (letter w l)) 4090 ≡ true
  free_length l = subst (λ z. nat_le (length (letter z l)) 4090 ≡ true) (sym f.is) (le-leb (length (119 ∷ (ds ++ 47 ∷ l ∷ []))) 4090
      (let a = length-decimal-le_wide 64 f.number (lit< tt) f.small f.small in omega (arith, length-append ds (47 ∷ l ∷ []), a)))

  -- a class that mentions a name of the package makes it used
  abbrev Uses : ClassFacts → Bool
  Uses c = list_any (λ x. starts_with nat_eq x (in_package w [])) (mentions c)

  uses_name : (c : ClassFacts) (x rest : Bytes) → x ≡ in_package w [] ++ rest → is_name_among (mentions c) x ≡ true → Uses c ≡ true
  uses_name c x rest e h = go (mentions c) h
    where
      go : (xs : List Bytes) → is_name_among xs x ≡ true → list_any (λ x. starts_with nat_eq x (in_package w [])) xs ≡ true
      go [] q = absurd (let z : false ≡ true = q in cc)
      go (y ∷ ys) q = by (or_cases (same y x) (is_name_among ys x) q) (go ys)
        where
          by : (same y x ≡ true) ⊎ (is_name_among ys x ≡ true) → (is_name_among ys x ≡ true → list_any (λ x. starts_with nat_eq x (in_package w [])) ys ≡ true) → (starts_with nat_eq y (in_package w []) || list_any (λ x. starts_with nat_eq x (in_package w [])) ys) ≡ true
          by (inl p) r = or_left (starts_with nat_eq y (in_package w [])) (list_any (λ x. starts_with nat_eq x (in_package w [])) ys) (begins_again w y rest (same_is y x p ∙ e))
          by (inr p) r = or_right (starts_with nat_eq y (in_package w [])) (list_any (λ x. starts_with nat_eq x (in_package w [])) ys) (r p)

  -- a side whose classes make no use of it
  module _ (W : World) (bare : W.clients ≡ []) (none : list_any Uses (classes W) ≡ false) where
    fewer : (test : ClassFacts → Bool) → ((c : ClassFacts) → test c ≡ true → Uses c ≡ true) → list_any test (classes W) ≡ false
    fewer test h = go (classes W) none
      where
        go : (cs : List ClassFacts) → list_any Uses cs ≡ false → list_any test cs ≡ false
        go [] q = refl
        go (c ∷ cs) q = by (test c) refl (go cs (neither_last (Uses c) (list_any Uses cs) q))
          where
            by : (b : Bool) → test c ≡ b → list_any test cs ≡ false → (test c || list_any test cs) ≡ false
            by false e r = rw (e, r) refl
            by true e r = absurd (both_ways (Uses c) (neither_first (Uses c) (list_any Uses cs) q) (h c e))

    in_it : (l : ℕ) → letter w l ≡ in_package w [] ++ l ∷ []
    in_it l = go w
      where
        go : (v : Bytes) → v ++ 47 ∷ l ∷ [] ≡ (v ++ 47 ∷ []) ++ l ∷ []
        go [] = refl
        go (x ∷ xs) = ap (λ ys. x ∷ ys) (go xs)

    absent : (l : ℕ) → (o : Option ClassFacts) → find_class W (letter w l) ≡ o → is_some o ≡ false
    unfolding find_class
    absent l None e = refl
    absent l (Some c) e = absurd (both_ways (list_any Uses (classes W)) none (any-named Uses (classes W) (letter w l) c e
        (uses_name c (letter w l) (l ∷ []) (in_it l) (or_left (same c.name (letter w l)) (is_name_among (supers c ++ permitted c.permits) (letter w l)) (subst (λ z. same z (letter w l) ≡ true) (sym (find-name W (letter w l) c e)) (same_itself (letter w l)))))))

    not_super : (l : ℕ) → is_named_above W (letter w l) ≡ false
    not_super l = fewer (λ c. is_name_among (supers c) (letter w l)) (λ c h. uses_name c (letter w l) (l ∷ []) (in_it l)
        (or_right (same c.name (letter w l)) (is_name_among (supers c ++ permitted c.permits) (letter w l)) (list_any-append (λ y. same y (letter w l)) (supers c) (permitted c.permits) ∙ or_left (is_name_among (supers c) (letter w l)) (is_name_among (permitted c.permits) (letter w l)) h)))

    pub not_permitted : (l : ℕ) (x : Bytes) (c : ClassFacts) → find_class W x ≡ Some c → is_name_among (permitted c.permits) (letter w l) ≡ false
    unfolding find_class
    not_permitted l x c e = go (is_name_among (permitted c.permits) (letter w l)) refl
      where
        go : (b : Bool) → is_name_among (permitted c.permits) (letter w l) ≡ b → b ≡ false
        go false p = refl
        go true p = absurd (both_ways (list_any Uses (classes W)) none (any-named Uses (classes W) x c e (uses_name c (letter w l) (l ∷ []) (in_it l)
            (or_right (same c.name (letter w l)) (is_name_among (supers c ++ permitted c.permits) (letter w l)) (list_any-append (λ y. same y (letter w l)) (supers c) (permitted c.permits) ∙ or_right (is_name_among (supers c) (letter w l)) (is_name_among (permitted c.permits) (letter w l)) p)))))

    no_package : (l : ℕ) → (l == 47) ≡ false → has_package W (letter w l) ≡ false
    no_package l n = fewer (λ c. in_same_package c.name (letter w l)) (λ c h. at c (same_is (package_name c.name) (package_name (letter w l)) h))
      where
        at : (c : ClassFacts) → package_name c.name ≡ package_name (letter w l) → Uses c ≡ true
        at c e =
            let p : package_name (letter w l) ≡ w = package_at w (l ∷ []) (rw n refl) in
            let b = begins_package c.name c.name 119 ds (e ∙ p ∙ f.is) in
            uses_name c c.name b.0 (b.1 ∙ ap (λ v. in_package v [] ++ b.0) (sym f.is)) (or_left (same c.name c.name) (is_name_among (supers c ++ permitted c.permits) c.name) (same_itself c.name))

    pub free_allowed : (l : ℕ) → is_letter l ≡ true → is_allowed_name W (letter w l) ≡ true
    unfolding is_allowed_name
    free_allowed l h =
        let n : (l == 47) ≡ false = each_letter (λ l. (l == 47) ≡ false) refl refl refl refl l h in
        rw (absent l (find_class W (letter w l)) refl, not_super l, no_package l n, free_length l, free_utf8 l h) refl
