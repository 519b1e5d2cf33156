-- The keys of final instance methods of a platform's superclasses, and those of a side beside them.
use Rattle.std.proofs.Common.{◌≡◌, ℕ, suc, ◌<◌, ◌≤◌, Bool, true, false, not, cond, List, [], ◌∷◌, ◌++◌, length, get_or, map, refl, sym, ◌∙◌, ap, subst, Option, Some, None, arith}
use Rattle.std.specs.Prelude.{is_some, option_map, slice_get, IfSome}
use Rattle.std.proofs.lemmas.Bool.{and_parts, or_parts}
use Rattle.std.proofs.lemmas.List.{length-map}
use Rattle.std.proofs.lemmas.List.Folds.{list_any-append}
use Rattle.std.proofs.lemmas.Option.{slice_get_read}
use Rattle.jc_facts.specs.declared.class_facts.ClassFacts.{ClassFacts}
use Rattle.jc_facts.specs.declared.key.Key.{Key}
use Rattle.jc_facts.specs.Names.{Bytes, same, same_key}
use Rattle.jc_facts.specs.Options.{and_then, some_where}
use Rattle.jc_facts.specs.file.Valid.{has_key}
use Rattle.jc_facts.specs.world.Search.{supers, supers_of}
use Rattle.jc_facts.specs.world.World.{World, class_named, find_class, size}
use Rattle.jc_facts.proofs.World.{class_named-first}
use Rattle.jc_index.specs.Ids.{id_of, name_at, place_of, superclass_of}
use Rattle.jc_index.specs.steps.Order.{names_at}
use Rattle.jc_index.specs.steps.PlacesAbove.{places_above, place_above, first_place}
use Rattle.jc_index.specs.steps.Walking.{AreMarked, HaveAllFinal, HaveFinalsBeside, HavePlatformFinals, are_of_platform, declares_final_instance, superclass_beside}
use Rattle.jc_index.proofs.FinalKeys.{AreOfFirst}
use Rattle.jc_index.proofs.Numbers.{id_of-Some, number_of, superclass_is}
use Rattle.jc_index.proofs.PlacesAbove.{in-row, no-row}
use Rattle.jc_index.proofs.Standing.{place-within}

-- ---- the first place of a row

-- the one that is read
pub first-read : (rows : List (List (Option ℕ))) (n : ℕ) (row : List (Option ℕ)) (place : Option ℕ) → n < length rows → row ≡ get_or rows n row → place ≡ and_then (λ above. above) (slice_get row 0) → place ≡ first_place rows n
unfolding and_then
first-read rows n row place l e h = h ∙ ap (and_then (λ (r : List (Option ℕ)). and_then (λ above. above) (slice_get r 0))) (sym (slice_get_read rows (length rows) n row refl l e))

-- where all of them are within the rows, so is it within as many marks
pub first-within : (rows : List (List (Option ℕ))) (marks : List Bool) (n : ℕ) (place : Option ℕ) → ((at m : ℕ) → first_place rows at ≡ Some m → m < length rows) → length marks ≡ length rows → place ≡ first_place rows n → IfSome place (λ m. m < length marks)
first-within rows marks n None h e f = tt
first-within rows marks n (Some m) h e f = subst (λ j. m < j) (sym e) (h n m (sym f))

module _ (cs : List ClassFacts) where
  above-within : (place at n : ℕ) → place_above cs place at ≡ Some n → n < length cs
  unfolding and_then
  above-within place at n e = class (slice_get cs place) e
    where
      name : (o : Option Bytes) → and_then (place_of (names_at cs)) o ≡ Some n → n < length cs
      name None q = absurd (let clash : None ≡ Some n = q in cc)
      name (Some x) q = place-within cs x n q

      class : (o : Option ClassFacts) → and_then (λ c. and_then (place_of (names_at cs)) (slice_get (supers c) at)) o ≡ Some n → n < length cs
      class None q = absurd (let clash : None ≡ Some n = q in cc)
      class (Some c) q = name (slice_get (supers c) at) q

  -- the rows of the places above, of which the first is the superclass's
  module _ (rows : List (List (Option ℕ))) (h : rows ≡ map (places_above cs) cs) where
    as-many : length rows ≡ length cs
    as-many = ap length h ∙ length-map cs (places_above cs)

    first-above : (place : ℕ) → first_place rows place ≡ place_above cs place 0
    unfolding and_then
    first-above place = go (slice_get rows place) refl
      where
        go : (o : Option (List (Option ℕ))) → slice_get rows place ≡ o → and_then (λ row. and_then (λ above. above) (slice_get row 0)) o ≡ place_above cs place 0
        go None e = no-row cs rows h place 0 e
        go (Some row) e = in-row cs rows h place 0 row e

    pub rows-within : (at n : ℕ) → first_place rows at ≡ Some n → n < length rows
    rows-within at n e = subst (λ j. n < j) (sym as-many) (above-within at 0 n (sym (first-above at) ∙ e))

    pub rows-marked : (marks : List Bool) → AreMarked (first_place rows) (length rows) (length rows) marks → AreMarked (λ at. place_above cs at 0) (length cs) (length cs) marks
    rows-marked marks m = record {
      count = m.count ∙ as-many;
      marked = λ at k l e. m.marked at k (subst (λ j. at < j) (sym as-many) l) (first-above at ∙ e);
    }

-- ---- of a platform

-- a class that is found stands at the place of its name
named-place : (cs : List ClassFacts) (x : Bytes) (c : ClassFacts) → class_named cs x ≡ Some c → (p : ℕ) × (place_of (names_at cs) x ≡ Some p) × (slice_get cs p ≡ Some c)
unfolding class_named place_of
named-place [] x c e = absurd (let clash : None ≡ Some c = e in cc)
named-place (d ∷ cs) x c e = go (same d.name x) e (named-place cs x c)
  where
    go : (b : Bool) → cond b (Some d) (class_named cs x) ≡ Some c → (class_named cs x ≡ Some c → (p : ℕ) × (place_of (names_at cs) x ≡ Some p) × (slice_get cs p ≡ Some c))
        → (p : ℕ) × (cond b (Some 0) (option_map suc (place_of (names_at cs) x)) ≡ Some p) × (slice_get (d ∷ cs) p ≡ Some c)
    go true q r = (0, refl, q)
    go false q r = let p = r q in (suc p.0, ap (option_map suc) p.1, p.2)

-- all classes are done, and the superclasses are marked
pub finals-listed : (cs : List ClassFacts) (marks : List Bool) (ks : List Key) (n : ℕ) → length cs ≤ n → AreMarked (λ at. place_above cs at 0) (length cs) (length cs) marks → AreOfFirst (slice_get cs) marks n ks → HavePlatformFinals cs ks
unfolding and_then
finals-listed cs marks ks n l marked h k a x b f s g c e =
    let below = named-place cs x b f in
    let above = named-place cs s c e in
    let inside : above.0 < length cs = place-within cs s above.0 above.1 in
    let named : place_above cs below.0 0 ≡ Some above.0 =
    ap (and_then (λ (d : ClassFacts). and_then (place_of (names_at cs)) (slice_get (supers d) 0))) below.2
    ∙ ap (λ (o : Option Bytes). and_then (place_of (names_at cs)) (slice_get (supers_of o b.interfaces) 0)) g ∙ above.1
    in
    h above.0 (omega arith) c above.2 (marked.marked below.0 above.0 (place-within cs x below.0 below.1) named) k a

-- ---- of a side beside its platform

-- the same where not both classes are of the platform
pub finals-beside : (W : World) (marks : List Bool) (ks : List Key) (n : ℕ) → size W ≤ n → AreMarked (superclass_beside W) (size W) (size W) marks → AreOfFirst (λ m. find_class W (name_at W m)) marks n ks → HaveFinalsBeside W ks
unfolding and_then
finals-beside W marks ks n l marked h k a x b f s g c e out = go (number_of W x (ap is_some f)) (number_of W s (ap is_some e))
  where
    go : (m : ℕ) × (id_of W x ≡ Some m) → (id : ℕ) × (id_of W s ≡ Some id) → declares_final_instance k c ≡ false
    go below above =
        let p = id_of-Some W x below.0 below.1 in
        let q = id_of-Some W s above.0 above.1 in
        let named : superclass_of W (name_at W below.0) ≡ Some above.0 = ap (superclass_of W) p.1 ∙ superclass_is W x b (sym f) ∙ ap (and_then (id_of W)) g ∙ above.1 in
        let apart : are_of_platform W (name_at W below.0) (name_at W above.0) ≡ false = ap (λ (y : Bytes). are_of_platform W y (name_at W above.0)) p.1 ∙ ap (are_of_platform W x) q.1 ∙ out in
        let beside : superclass_beside W below.0 ≡ Some above.0 =
        ap (and_then (λ (id : ℕ). some_where (not (are_of_platform W (name_at W below.0) (name_at W id))) id)) named ∙ ap (λ (t : Bool). some_where (not t) above.0) apart
        in
        h above.0 (let i = q.0 in omega arith) c (ap (find_class W) q.1 ∙ e) (marked.marked below.0 above.0 p.0 beside) k a

-- a class that the platform has is the world's of this name
platform-first : (W : World) (x : Bytes) (c : ClassFacts) → find_class W x ≡ Some c → is_some (class_named W.platform x) ≡ true → class_named W.platform x ≡ Some c
unfolding find_class
platform-first W x c e h =
    let first : class_named (W.platform ++ W.release) x ≡ class_named W.platform x = class_named-first W.platform W.release x h in
    sym first ∙ sym (class_named-first (W.platform ++ W.release) W.clients x (ap is_some first ∙ h)) ∙ e

-- a key that is in neither list is in none
neither : (k : Key) (ps js : List Key) → has_key k (ps ++ js) ≡ false → (has_key k ps ≡ false) × (has_key k js ≡ false)
neither k ps js a = or_parts (has_key k ps) (has_key k js) (sym (list_any-append (same_key k) ps js) ∙ a)

-- both together
pub finals-both : (W : World) (ps js : List Key) → HavePlatformFinals W.platform ps → HaveFinalsBeside W js → HaveAllFinal W (ps ++ js)
finals-both W ps js p h k a x b f s g c e = go (are_of_platform W x s) refl
  where
    go : (t : Bool) → are_of_platform W x s ≡ t → declares_final_instance k c ≡ false
    go false q = h k (neither k ps js a).1 x b f s g c e q
    go true q =
        let both = and_parts (is_some (class_named W.platform x)) (is_some (class_named W.platform s)) q in
        p k (neither k ps js a).0 x b (platform-first W x b f both.0) s g c (platform-first W s c e both.1)
