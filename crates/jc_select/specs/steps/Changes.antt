-- Of which keys classes have otherwise than before.
--     kind_at W k n      what the class of number n itself has of the key
--     HasChanged s i j keys      of other keys than these the old class of number i and the new one of number j have the same
--     HasNoMore W next levels before after      of other keys than those after, classes further up have nothing
use Rattle.std.specs.Prelude.{ℕ, ◌<◌, ◌≡◌, Bool, true, false, not, List, [], length, slice_index_or, Option, Some}
use Rattle.std.specs.List.{AllByRecursion}
use Rattle.jc_facts.specs.declared.key.Key.{Key}
use Rattle.jc_facts.specs.declared.warning.ChainKind.{ChainKind}
use Rattle.jc_facts.specs.declared.warning.ChainKind.TheVariants.{Nothing, Abstract, Concrete}
use Rattle.jc_facts.specs.file.Valid.{has_key}
use Rattle.jc_facts.specs.world.World.{World, size}
use Rattle.jc_index.specs.steps.Choosing.{candidate_at}
use Rattle.jc_sides.specs.SidesOf.{SidesOf}
use Rattle.jc_index.specs.Ids.{name_at, id_of}
use Rattle.jc_select.specs.steps.Kinds.{kind_of, kind_from}

-- what the class of this number itself has of the key
abbrev pub kind_at : World → Key → ℕ → ChainKind
kind_at W k n = kind_of (candidate_at W k n)

-- the two are the same
abbrev pub same_kind : ChainKind → ChainKind → Bool
same_kind Nothing Nothing = true
same_kind Abstract Abstract = true
same_kind Concrete Concrete = true
same_kind _ _ = false

-- the old class of number i and the new one of number j don't have the same of the key
abbrev pub differs : SidesOf → ℕ → ℕ → Key → Bool
differs s i j k = not (same_kind (kind_at s.old k i) (kind_at s.new k j))

-- of keys that aren't among these they have the same
abbrev pub HasChanged : SidesOf → ℕ → ℕ → List Key → Type 0
HasChanged s i j keys = (k : Key) → has_key k keys ≡ false → kind_at s.old k i ≡ kind_at s.new k j

-- for each class of the old side, such keys of it and of the new class of its name
pub record AreChanges (s : SidesOf) (changes : List (List Key)) : Type 0 where
  pub count : length changes ≡ size s.old
  pub right : (i j : ℕ) → i < size s.old → id_of s.new (name_at s.old i) ≡ Some j → HasChanged s i j (slice_index_or changes i [])

-- of keys that aren't among those after, which has those before, the class has nothing
abbrev pub HasNone : World → ℕ → List Key → List Key → Type 0
HasNone W n before after = (k : Key) → has_key k after ≡ false → (has_key k before ≡ false) × (kind_at W k n ≡ Nothing)

-- the same of all of these classes
abbrev pub HaveNone : World → List ℕ → List Key → List Key → Type 0
HaveNone W ids before after = (k : Key) → has_key k after ≡ false → (has_key k before ≡ false) × AllByRecursion (λ n. kind_at W k n ≡ Nothing) ids

-- the same of a class and those above it in its chain, at most so many
abbrev pub HasNoMore : World → Option ℕ → ℕ → List Key → List Key → Type 0
HasNoMore W next levels before after = (k : Key) → has_key k after ≡ false → (has_key k before ≡ false) × (kind_from W k levels next ≡ Nothing)
