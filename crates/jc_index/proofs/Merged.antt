-- The places on a side of the classes of its two lists.
use Rattle.std.proofs.Common.{◌≡◌, ◌<◌, ◌≤◌, ◌+◌, ◌++◌, ◌∷◌, [], ℕ, suc, zero, List, length, map, take, get_or, refl, sym, ◌∙◌, ap, subst, Some, arith, length-append}
use Rattle.std.specs.Prelude.{slice_get, IsTrue}
use Rattle.std.specs.List.{All}
use Rattle.std.specs.List.Sorted.{IsPermutation}
use Rattle.std.proofs.lemmas.List.{append-nil, append_assoc, map-append, map_more}
use Rattle.std.proofs.lemmas.List.Elements.{All-from_recursion, recursion_from_All}
use Rattle.std.proofs.lemmas.List.Sorted.{IsPermutation-append}
use Rattle.jc_lemmas.proofs.Listed.{EachOf, EachOf-append}
use Rattle.jc_facts.specs.declared.class_facts.ClassFacts.{ClassFacts}
use Rattle.jc_facts.specs.Names.{Bytes}
use Rattle.jc_facts.specs.world.World.{differ_by_name, World, classes}
use Rattle.jc_index.specs.Ids.{names_of, name_or, name_in}
use Rattle.jc_index.specs.Sides.{IsSide}
use Rattle.jc_index.specs.steps.Order.{names_at, IsPlace, IsOrder, place_after}
use Rattle.jc_index.proofs.Places.{names-permutation}

-- one more class is placed
pub one_placed : (cs : List ClassFacts) (before : ℕ) (order : List ℕ) (n at : ℕ) (c : ClassFacts) (ps qs rs : List (Bytes × ℕ)) (name : Bytes) → n < length order → at ≡ get_or order n at
    → Some c ≡ slice_get cs (before + at) → name ≡ c.name → rs ≡ qs ++ (name, before + at) ∷ [] → qs ≡ ps ++ map (place_after cs before) (take n order) → rs ≡ ps ++ map (place_after cs before) (take (n + 1) order)
one_placed cs before order n at c ps qs rs name l i s e q h =
    ◌∙◌ {A = List (Bytes × ℕ)} q
    (ap (λ (x : Bytes). qs ++ (x, before + at) ∷ []) (e ∙ ap name_or s)
    ∙ ap (λ (xs : List (Bytes × ℕ)). xs ++ place_after cs before at ∷ []) h
    ∙ append_assoc ps (map (place_after cs before) (take n order)) (place_after cs before at ∷ [])
    ∙ ap (λ (k : ℕ). ps ++ (map (place_after cs before) (take n order) ++ place_after cs before k ∷ [])) i
    ∙ ap (λ (xs : List (Bytes × ℕ)). ps ++ xs) (sym (map_more (place_after cs before) order n at l)))

-- ---- both lists

-- the names at these places
names-after : (cs : List ClassFacts) (before : ℕ) (order : List ℕ) → map (λ p. p.0) (map (place_after cs before) order) ≡ map (λ at. name_in cs (before + at)) order
names-after cs before [] = refl
names-after cs before (at ∷ order) = ap (λ (xs : List Bytes). name_in cs (before + at) ∷ xs) (names-after cs before order)

-- a name of the first list, and one of the second
name-first : (cs ds : List ClassFacts) (at : ℕ) → at < length cs → name_in (cs ++ ds) at ≡ name_in cs at
name-first [] ds at l = absurd (omega arith)
name-first (c ∷ cs) ds zero l = refl
name-first (c ∷ cs) ds (suc at) l = name-first cs ds at (omega arith)

name-second : (cs ds : List ClassFacts) (at : ℕ) → name_in (cs ++ ds) (length cs + at) ≡ name_in ds at
name-second [] ds at = ap (name_in ds) (let q : 0 + at ≡ at = omega arith in q)
name-second (c ∷ cs) ds at = ap (name_in (c ∷ (cs ++ ds))) (let q : suc (length cs) + at ≡ suc (length cs + at) = omega arith in q) ∙ name-second cs ds at

same-names : (f g : ℕ → Bytes) (cs : List ClassFacts) (order : List ℕ) → ((at : ℕ) → at < length cs → f at ≡ g at) → EachOf (λ at. at < length cs) order → map f order ≡ map g order
same-names f g cs [] h k = refl
same-names f g cs (at ∷ order) h k = ap (λ (x : Bytes). x ∷ map f order) (h at k.0) ∙ ap (λ (xs : List Bytes). g at ∷ xs) (same-names f g cs order h k.1)

each-place : (cs : List ClassFacts) (before : ℕ) (order : List ℕ) → EachOf (λ at. before + at < length cs) order → EachOf (IsPlace cs) (map (place_after cs before) order)
each-place cs before [] h = tt
each-place cs before (at ∷ order) h = ((h.0, refl), each-place cs before order h.1)

-- the places of an order, behind so many classes of a longer list
inside : (cs ds : List ClassFacts) (before : ℕ) (order : List ℕ) → before + length ds ≤ length cs → IsOrder ds order → EachOf (λ at. before + at < length cs) order
inside cs ds before order l o = go order (recursion_from_All (λ at. at < length ds) order o.within)
  where
    go : (ats : List ℕ) → EachOf (λ at. at < length ds) ats → EachOf (λ at. before + at < length cs) ats
    go [] h = tt
    go (at ∷ ats) h = (let k : at < length ds = h.0 in omega arith, go ats h.1)

each-below : (ds : List ClassFacts) (order : List ℕ) → IsOrder ds order → EachOf (λ at. at < length ds) order
each-below ds order o = recursion_from_All (λ at. at < length ds) order o.within

-- the classes of a side without clients
pub two_lists : (W : World) → W.clients ≡ [] → classes W ≡ W.platform ++ W.release
two_lists W bare = ap (λ (cs : List ClassFacts). W.platform ++ W.release ++ cs) bare ∙ append-nil (W.platform ++ W.release)

-- those of the release, and then the clients
abbrev beside : World → List ClassFacts
beside W = W.release ++ W.clients

both_lists : (W : World) → classes W ≡ W.platform ++ beside W
both_lists W = append_assoc W.platform W.release W.clients

many : (W : World) → length (classes W) ≡ length W.platform + length (beside W)
many W = ap length (both_lists W) ∙ length-append W.platform (beside W)

first-each : (W : World) → (first : List ℕ) → IsOrder W.platform first → EachOf (λ at. 0 + at < length (classes W)) first
first-each W first f = inside (classes W) W.platform 0 first (let m = many W in omega arith) f

second-each : (W : World) → (second : List ℕ) → IsOrder (beside W) second → EachOf (λ at. length W.platform + at < length (classes W)) second
second-each W second g = inside (classes W) (beside W) (length W.platform) second (let m = many W in omega arith) g

pub first_inside : (W : World) → (first : List ℕ) → IsOrder W.platform first → All (λ at. 0 + at < length (classes W)) first
first_inside W first f = All-from_recursion (λ at. 0 + at < length (classes W)) first (first-each W first f)

pub second_inside : (W : World) → (second : List ℕ) → IsOrder (beside W) second → All (λ at. length W.platform + at < length (classes W)) second
second_inside W second g = All-from_recursion (λ at. length W.platform + at < length (classes W)) second (second-each W second g)

module _ (W : World) (s : IsSide W) (first second : List ℕ) (f : IsOrder W.platform first) (g : IsOrder (beside W) second) where
  placed : All (IsPlace (classes W)) (map (place_after (classes W) 0) first ++ map (place_after (classes W) (length W.platform)) second)
  placed =
      All-from_recursion (IsPlace (classes W)) (map (place_after (classes W) 0) first ++ map (place_after (classes W) (length W.platform)) second)
      (EachOf-append (IsPlace (classes W)) (map (place_after (classes W) 0) first) (map (place_after (classes W) (length W.platform)) second)
      (each-place (classes W) 0 first (first-each W first f)) (each-place (classes W) (length W.platform) second (second-each W second g)))

  first-name : (at : ℕ) → at < length W.platform → name_in (classes W) (0 + at) ≡ name_in W.platform at
  first-name at l =
      ap (name_in (classes W)) (let q : 0 + at ≡ at = omega arith in q) ∙ ap (λ (cs : List ClassFacts). name_in cs at) (both_lists W)
      ∙ name-first W.platform (beside W) at l

  second-name : (at : ℕ) → at < length (beside W) → name_in (classes W) (length W.platform + at) ≡ name_in (beside W) at
  second-name at l = ap (λ (cs : List ClassFacts). name_in cs (length W.platform + at)) (both_lists W) ∙ name-second W.platform (beside W) at

  names_are : map (λ p. p.0) (map (place_after (classes W) 0) first ++ map (place_after (classes W) (length W.platform)) second) ≡ names_of W.platform ++ names_of (beside W)
  names_are =
      map-append (λ (p : Bytes × ℕ). p.0) (map (place_after (classes W) 0) first) (map (place_after (classes W) (length W.platform)) second)
      ∙ ap (λ (xs : List Bytes). xs ++ map (λ p. p.0) (map (place_after (classes W) (length W.platform)) second))
      (names-after (classes W) 0 first ∙ same-names (λ at. name_in (classes W) (0 + at)) (name_in W.platform) W.platform first first-name (each-below W.platform first f) ∙ f.named)
      ∙ ap (λ (xs : List Bytes). names_of W.platform ++ xs)
      (names-after (classes W) (length W.platform) second ∙ same-names (λ at. name_in (classes W) (length W.platform + at)) (name_in (beside W)) (beside W) second second-name (each-below (beside W) second g) ∙ g.named)

  named : IsPermutation (names_at (classes W)) (map (λ p. p.0) (map (place_after (classes W) 0) first ++ map (place_after (classes W) (length W.platform)) second))
  named =
      subst (λ (xs : List Bytes). IsPermutation (names_at (classes W)) xs) (sym names_are)
      (subst (λ (xs : List Bytes). IsPermutation xs (names_of W.platform ++ names_of (beside W))) (sym (ap names_at (both_lists W) ∙ map-append (λ (c : ClassFacts). c.name) W.platform (beside W)))
      (IsPermutation-append (names_at W.platform) (names_of W.platform) (names_at (beside W)) (names_of (beside W)) (names-permutation W.platform) (names-permutation (beside W))))

  -- what is sorted is the order of the side
  pub merged_order : (order : List ℕ) (places : List (Bytes × ℕ)) → places ≡ map (place_after (classes W) 0) first ++ map (place_after (classes W) (length W.platform)) second
      → ((cs : List ClassFacts) → IsTrue (differ_by_name cs) → IsPermutation (names_at cs) (map (λ p. p.0) places) → All (IsPlace cs) places → IsOrder cs order) → IsOrder (classes W) order
  merged_order order places e h =
      h (classes W) s.differ
      (subst (λ (ps : List (Bytes × ℕ)). IsPermutation (names_at (classes W)) (map (λ p. p.0) ps)) (sym e) named)
      (subst (All (IsPlace (classes W))) (sym e) placed)
