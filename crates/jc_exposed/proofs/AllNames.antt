-- What is found through all classes exposes exactly the hidden classes that are exposed.
use Rattle.std.proofs.Common.{◌≡◌, ◌<◌, ◌≤◌, ◌+◌, ℕ, Bool, true, false, List, [], length, take, refl, sym, ◌∙◌, ap, subst, Some, ◌||◌, ◌&&◌, nat_lt}
use Rattle.std.specs.List.{All, list_any}
use Rattle.std.proofs.lemmas.List.{take_all}
use Rattle.std.proofs.lemmas.List.Folds.{list_any_more}
use Rattle.std.proofs.lemmas.List.Sorted.{list_any-IsPermutation}
use Rattle.jc_desc.specs.Classes.{descriptor_names}
use Rattle.jc_facts.specs.declared.class_facts.ClassFacts.{ClassFacts}
use Rattle.jc_facts.specs.declared.key.Key.{Key}
use Rattle.jc_facts.specs.Names.{Bytes}
use Rattle.jc_facts.specs.Options.{some_where}
use Rattle.jc_facts.specs.world.World.{World, classes, size}
use Rattle.jc_promises.specs.rule.Bases.{is_class_usable}
use Rattle.jc_promises.specs.rule.Exposed.{is_hidden, is_exposed, keys_of, exposes}
use Rattle.jc_facts.proofs.Mapped.{any-flat, any-map}
use Rattle.jc_facts.proofs.Options.{some_where-is}
use Rattle.jc_worlds.specs.Hierarchy.{above}
use Rattle.jc_index.specs.steps.Order.{names_at}
use Rattle.jc_index.proofs.Numbers.{names-length}
use Rattle.jc_index.proofs.Places.{names-permutation}
use Rattle.jc_sound.specs.ExposedAbove.{keys_above, exposes_by}
use Rattle.jc_sound.proofs.ExposedAbove.{exposed_by_keys_above}
use Rattle.jc_index.specs.Ids.{name_at, names}
use Rattle.jc_index.specs.Sides.{IsSide}
use Rattle.jc_exposed.specs.Exposures.{exposes_to}
use Rattle.jc_exposed.specs.Exposing.{Finds, opens, opens_usable}
use Rattle.jc_exposed.specs.Rows.{AreAdded, AreExposing, AreRows}
use Rattle.jc_exposed.specs.declared.exposure.Exposure.{Exposure}
use Rattle.jc_exposed.proofs.AddedRows.{empty_exposes, empty_rows}

module _ (W : World) (a x : Bytes) where
  -- a key of a class above c names x and is open
  abbrev pub names_above : Bytes → Bool
  names_above c = list_any (λ d. list_any (λ k. descriptor_names k.descriptor x && opens W c a k) (keys_of d)) (above W c)

  by_class : (c : ClassFacts) → (is_class_usable W c.name && names_above c.name) ≡ exposes_by W a x c
  unfolding exposes
  by_class c = go (is_class_usable W c.name) refl
    where
      test : Key → Bool
      test k = (is_class_usable W c.name && descriptor_names k.descriptor x) && opens W c.name a k

      inner : is_class_usable W c.name ≡ true → names_above c.name ≡ list_any test (keys_above W c.name)
      inner e =
          ap (λ b. list_any (λ d. list_any (λ k. (b && descriptor_names k.descriptor x) && opens W c.name a k) (keys_of d)) (above W c.name)) (sym e)
          ∙ sym (any-flat test keys_of (above W c.name))

      go : (u : Bool) → is_class_usable W c.name ≡ u → (is_class_usable W c.name && names_above c.name) ≡ (is_class_usable W c.name && list_any test (keys_above W c.name))
      go true e = ap (λ b. is_class_usable W c.name && b) (inner e)
      go false e = ap (λ b. b && names_above c.name) e ∙ sym (ap (λ b. b && list_any test (keys_above W c.name)) e)

  through_all : list_any (λ c. is_class_usable W c && names_above c) (names W) ≡ list_any (exposes_by W a x) (classes W)
  unfolding names
  through_all =
      sym (list_any-IsPermutation (λ c. is_class_usable W c && names_above c) (names_at (classes W)) (names W) (names-permutation (classes W)))
      ∙ any-map (λ c. is_class_usable W c && names_above c) (λ (c : ClassFacts). c.name) (classes W)
      ∙ ap (λ (p : ClassFacts → Bool). list_any p (classes W)) (λ i c. by_class c i)

  pub exposed_is : IsSide W → W.clients ≡ [] → is_hidden W x ≡ true → list_any (λ c. is_class_usable W c && names_above c) (names W) ≡ is_exposed W a x
  exposed_is s bare h = through_all ∙ sym (ap (λ b. b && list_any (exposes_by W a x) (classes W)) h) ∙ sym (exposed_by_keys_above W bare s.root s.platform s.release a x)

-- ---- rows along the names of the world

module _ (W : World) (on : ℕ → Bool) where
  abbrev pub through : List Bytes → Bytes → ℕ → Bool
  through xs a t = list_any (λ c. opens_usable W c a t) xs

  pub rows_start : (rows : List (List Exposure)) → length rows ≡ size W → All (λ row. row ≡ []) rows → AreRows W on (through []) rows
  rows_start rows l e = record { shape = empty_rows W rows l e; exact = λ a t h o. empty_exposes W rows l e a t h }

  pub rows_next : (n k : ℕ) (ms : List Exposure) (rows now : List (List Exposure)) → n < size W → some_where (nat_lt n (size W)) n ≡ Some k → AreRows W on (through (take n (names W))) rows → Finds W on (opens_usable W (name_at W k)) ms → AreAdded W ms rows now
      → AreRows W on (through (take (n + 1) (names W))) now
  rows_next n k ms rows now l is f g h = record {
    shape = h.shape;
    exact = λ a t i o.
        h.exact a t i ∙ ap (λ b. b || list_any (exposes_to W a t) ms) (f.exact a t i o) ∙ ap (λ b. through (take n (names W)) a t || b) (g.exposed a t o)
        ∙ ap (λ j. through (take n (names W)) a t || opens_usable W (name_at W j) a t) (some_where-is (nat_lt n (size W)) n k is)
        ∙ sym (list_any_more (λ c. opens_usable W c a t) (names W) n [] (subst (λ m. n < m) (sym (names-length W)) l));
  }

  pub rows_end : (n : ℕ) (rows : List (List Exposure)) → size W ≤ n → AreRows W on (through (take n (names W))) rows → AreRows W on (through (names W)) rows
  rows_end n rows l f = subst (λ ys. AreRows W on (through ys) rows) (take_all n (names W) (subst (λ m. m ≤ n) (sym (names-length W)) l)) f

  pub all_exposing : (rows : List (List Exposure)) → IsSide W → W.clients ≡ [] → AreRows W on (through (names W)) rows → AreExposing W on rows
  all_exposing rows s bare f = record { shape = f.shape; exact = λ a t i o h. f.exact a t i o ∙ exposed_is W a (name_at W t) s bare h }
