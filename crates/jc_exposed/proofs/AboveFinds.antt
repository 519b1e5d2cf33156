-- Members that expose classes, collected along a walk up the superclasses.
use Rattle.std.proofs.Common.{◌≡◌, ℕ, suc, Bool, true, false, ◌||◌, List, [], ◌++◌, refl, sym, ◌∙◌, ap, subst, Option, Some, None}
use Rattle.std.specs.List.{list_any, All}
use Rattle.std.proofs.lemmas.List.Elements.{All-append, All-nil}
use Rattle.std.proofs.lemmas.List.Folds.{list_any-append}
use Rattle.std.proofs.Math.Bool.{or-false}
use Rattle.jc_facts.specs.declared.class_facts.ClassFacts.{ClassFacts}
use Rattle.jc_facts.specs.Names.{Bytes}
use Rattle.jc_facts.specs.Options.{some_and}
use Rattle.jc_facts.specs.world.World.{World, find_class, size}
use Rattle.jc_facts.specs.world.Hierarchy.{chain, each, with_interfaces, interfaces_of, superinterfaces}
use Rattle.jc_worlds.specs.Hierarchy.{above}
use Rattle.jc_index.specs.Ids.{name_at, superclass_of}
use Rattle.jc_index.specs.Above.{AreAbove}
use Rattle.jc_index.specs.steps.Walking.{chain_from}
use Rattle.jc_index.proofs.Walking.{from-step, from-none, from-nothing}
use Rattle.jc_index.proofs.Reached.{any_reached}
use Rattle.jc_exposed.specs.Exposures.{exposes_to, IsExposureIn}
use Rattle.jc_exposed.specs.Exposing.{Finds}
use Rattle.jc_exposed.specs.declared.exposure.Exposure.{Exposure}

-- one of the classes from this number on up, so many at most, or of the superinterfaces that they lead to, passes
abbrev pub any_up : World → (ClassFacts → Bool) → ℕ → Option ℕ → Bool
any_up W p n next = list_any p (chain_from W n next) || list_any p (interfaces_of W (chain_from W n next))

-- what is found, and what is still to come
pub record IsAhead (W : World) (on : ℕ → Bool) (p : Bytes → ℕ → ClassFacts → Bool) (x : Bytes) (left : ℕ) (next : Option ℕ) (ms : List Exposure) : Type 0 where
  pub ahead : (a : Bytes) (t : ℕ) → on t ≡ true → (list_any (exposes_to W a t) ms || any_up W (p a t) left next) ≡ list_any (p a t) (above W x)
  pub inside : All (IsExposureIn W) ms

module _ (W : World) (p : ClassFacts → Bool) where
  up_step : (m n a : ℕ) (c : ClassFacts) → m ≡ suc n → find_class W (name_at W a) ≡ Some c
      → any_up W p m (Some a) ≡ ((p c || list_any p (each (with_interfaces W) c.interfaces)) || any_up W p n (superclass_of W (name_at W a)))
  unfolding interfaces_of
  up_step m n a c e f =
      ap (λ (cs : List ClassFacts). list_any p cs || list_any p (interfaces_of W cs)) (from-step W m n a c e f)
      ∙ ap (λ b. (p c || list_any p rest) || b) (list_any-append p (each (with_interfaces W) c.interfaces) (interfaces_of W rest))
      ∙ sides (p c) (list_any p rest) (list_any p (each (with_interfaces W) c.interfaces)) (list_any p (interfaces_of W rest))
    where
      rest : List ClassFacts
      rest = chain_from W n (superclass_of W (name_at W a))

      sides : (a b c d : Bool) → ((a || b) || (c || d)) ≡ ((a || c) || (b || d))
      sides true b c d = refl
      sides false true true d = refl
      sides false true false d = refl
      sides false false c d = refl

  up_start : (a m : ℕ) → m ≡ size W → any_up W p m (Some a) ≡ list_any p (above W (name_at W a))
  unfolding chain chain_from superinterfaces
  up_start a m e = ap (λ n. any_up W p n (Some a)) e ∙ sym (list_any-append p (chain W (name_at W a)) (superinterfaces W (name_at W a)))

  up_nothing : (cs : List ClassFacts) → cs ≡ [] → (list_any p cs || list_any p (interfaces_of W cs)) ≡ false
  unfolding interfaces_of
  up_nothing cs e = ap (λ (cs : List ClassFacts). list_any p cs || list_any p (interfaces_of W cs)) e

  up_more : (found : Bool) (m n a : ℕ) (next up : Option ℕ) (c : ClassFacts) (ids : List ℕ) → m ≡ suc n → next ≡ Some a → Some c ≡ find_class W (name_at W a) → AreAbove W (name_at W a) ids → up ≡ superclass_of W (name_at W a)
      → (((found || some_and p (find_class W (name_at W a))) || list_any (λ n. some_and p (find_class W (name_at W n))) ids) || any_up W p n up) ≡ (found || any_up W p m next)
  up_more found m n a next up c ids e q f above u =
      ap (λ (o : Option ClassFacts). ((found || some_and p o) || list_any (λ n. some_and p (find_class W (name_at W n))) ids) || any_up W p n up) (sym f)
      ∙ ap (λ b. ((found || p c) || b) || any_up W p n up) (sym (any_reached W p (name_at W a) c (sym f) ids above))
      ∙ sides found (p c) (list_any p (each (with_interfaces W) c.interfaces)) (any_up W p n up)
      ∙ ap (λ (o : Option ℕ). found || ((p c || list_any p (each (with_interfaces W) c.interfaces)) || any_up W p n o)) u
      ∙ ap (λ b. found || b) (sym (up_step m n a c e (sym f)))
      ∙ ap (λ (o : Option ℕ). found || any_up W p m o) (sym q)
    where
      sides : (a b c d : Bool) → (((a || b) || c) || d) ≡ (a || ((b || c) || d))
      sides true b c d = refl
      sides false b c d = refl

module _ (W : World) (on : ℕ → Bool) (p : Bytes → ℕ → ClassFacts → Bool) where
  pub ahead_starts : (id m : ℕ) (ms : List Exposure) → m ≡ size W → ms ≡ [] → IsAhead W on p (name_at W id) m (Some id) ms
  ahead_starts id m ms e z = subst (IsAhead W on p (name_at W id) m (Some id)) (sym z) (record { ahead = λ a t o. up_start W (p a t) id m e; inside = All-nil (IsExposureIn W) })

  module _ (x : Bytes) where
    pub ahead_more : (m n id : ℕ) (next up : Option ℕ) (c : ClassFacts) (ids : List ℕ) (ms own half ifs now : List Exposure) → m ≡ suc n → next ≡ Some id → Some c ≡ find_class W (name_at W id) → AreAbove W (name_at W id) ids → up ≡ superclass_of W (name_at W id)
        → half ≡ ms ++ own → now ≡ half ++ ifs → Finds W on (λ a t. some_and (p a t) (find_class W (name_at W id))) own → Finds W on (λ a t. list_any (λ n. some_and (p a t) (find_class W (name_at W n))) ids) ifs
        → IsAhead W on p x m next ms → IsAhead W on p x n up now
    ahead_more m n id next up c ids ms own half ifs now e q f above u h j fo fi i = subst (IsAhead W on p x n up) (sym (j ∙ ap (λ z. z ++ ifs) h)) (record {
      ahead = λ a t o.
          ap (λ b. b || any_up W (p a t) n up) (list_any-append (exposes_to W a t) (ms ++ own) ifs ∙ ap (λ b. b || list_any (exposes_to W a t) ifs) (list_any-append (exposes_to W a t) ms own))
          ∙ ap (λ b. ((list_any (exposes_to W a t) ms || b) || list_any (exposes_to W a t) ifs) || any_up W (p a t) n up) (fo.exposed a t o)
          ∙ ap (λ b. ((list_any (exposes_to W a t) ms || some_and (p a t) (find_class W (name_at W id))) || b) || any_up W (p a t) n up) (fi.exposed a t o)
          ∙ up_more W (p a t) (list_any (exposes_to W a t) ms) m n id next up c ids e q f above u ∙ i.ahead a t o;
      inside = All-append (IsExposureIn W) (ms ++ own) ifs (All-append (IsExposureIn W) ms own i.inside fo.inside) fi.inside;
    })

    ahead_nothing : (m : ℕ) (next : Option ℕ) (ms : List Exposure) → chain_from W m next ≡ [] → IsAhead W on p x m next ms → Finds W on (λ a t. list_any (p a t) (above W x)) ms
    ahead_nothing m next ms e i = record {
      exposed = λ a t o. sym (or-false (list_any (exposes_to W a t) ms)) ∙ ap (λ b. list_any (exposes_to W a t) ms || b) (sym (up_nothing W (p a t) (chain_from W m next) e)) ∙ i.ahead a t o;
      inside = i.inside;
    }

    pub ahead_top : (m : ℕ) (next : Option ℕ) (ms : List Exposure) → next ≡ None → IsAhead W on p x m next ms → Finds W on (λ a t. list_any (p a t) (above W x)) ms
    ahead_top m next ms e i = ahead_nothing m next ms (ap (chain_from W m) e ∙ from-nothing W m) i

    pub ahead_out : (m : ℕ) (next : Option ℕ) (ms : List Exposure) → m ≡ 0 → IsAhead W on p x m next ms → Finds W on (λ a t. list_any (p a t) (above W x)) ms
    ahead_out m next ms e i = ahead_nothing m next ms (ap (λ n. chain_from W n next) e ∙ from-none W next) i
