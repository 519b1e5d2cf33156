-- The classes that have rows are marked: along the load order those that stand on the release, and then, from its last class to its
-- first, what the marked ones name above themselves.
use Rattle.std.specs.Prelude.{ℕ, Bool, true, false, not, cond, ◌≡◌, ◌<◌, ◌||◌, List, [], ◌∷◌, length, Option, None, Some, IfSome, is_some, set, slice_index_or}
use Rattle.std.specs.List.{All, AllByRecursion, Contains, list_any}
use Rattle.jc_facts.specs.Names.{object_name}
use Rattle.jc_facts.specs.Options.{some_and}
use Rattle.jc_facts.specs.world.World.{World, size, class_named}
use Rattle.jc_facts.specs.world.Loading.{load_fault}
use Rattle.jc_index.specs.Ids.{name_at, id_of, superclass_of}
use Rattle.jc_index.specs.Interfaces.{interfaces_of}
use Rattle.jc_rows.specs.WithRows.{stands_on_release, has_rows}

-- the superclass and the interfaces that the class of this number names, by their numbers
abbrev pub numbers_above : World → ℕ → List (Option ℕ)
numbers_above W n = superclass_of W (name_at W n) ∷ interfaces_of W (name_at W n)

-- there is a mark for each class, and none is set
pub record AreUnmarked (W : World) (made : List Bool) : Type 0 where
  pub count : length made ≡ size W
  pub each : All (λ m. m ≡ false) made

-- ---- classes that stand on the release

-- there is a class of this number, and it is marked
abbrev pub marked_at : List Bool → Option ℕ → Bool
marked_at made o = some_and (λ n. slice_index_or made n false) o

-- the class of this number is of the release, or one that it names above itself is marked
abbrev pub stands_by : World → List Bool → ℕ → Bool
stands_by W made n = not (is_some (class_named W.platform (name_at W n))) || list_any (marked_at made) (numbers_above W n)

-- of these classes those that stand on the release are marked, and no class that doesn't load is
pub record AreStanding (W : World) (before : List ℕ) (made : List Bool) : Type 0 where
  pub count : length made ≡ size W
  pub done : (n : ℕ) → Contains before n → slice_index_or made n false ≡ stands_on_release W (name_at W n)
  pub unloaded : (n : ℕ) → (load_fault W (name_at W n) ≡ None → ⊥) → slice_index_or made n false ≡ false

-- ---- what is above them

-- the mark of this number is set
abbrev pub with_mark : List Bool → Option ℕ → List Bool
with_mark made None = made
with_mark made (Some n) = set made n true

-- the marks of these numbers are
abbrev pub with_marks : List Bool → List (Option ℕ) → List Bool
with_marks made [] = made
with_marks made (o ∷ os) = with_marks (with_mark made o) os

-- where the class of this number is marked, what it names above itself is
abbrev pub marks_from : World → List Bool → ℕ → List Bool
marks_from W made n = cond (slice_index_or made n false) (with_marks made (numbers_above W n)) made

-- the class of this number is marked, where there is one
abbrev pub IsMarked : List Bool → Option ℕ → Type 0
IsMarked made o = IfSome o (λ n. slice_index_or made n false ≡ true)

-- what is marked has rows, what stands on the release is marked, and only what these numbers lead up to is still to be marked
pub record IsMarking (W : World) (rest : List ℕ) (made : List Bool) : Type 0 where
  pub count : length made ≡ size W
  pub object : IsMarked made (id_of W object_name)
  pub standing : (n : ℕ) → n < size W → stands_on_release W (name_at W n) ≡ true → slice_index_or made n false ≡ true
  pub sound : (n : ℕ) → n < size W → slice_index_or made n false ≡ true → has_rows W (name_at W n) ≡ true
  pub closed : (n : ℕ) → n < size W → load_fault W (name_at W n) ≡ None → (Contains rest n → ⊥) → slice_index_or made n false ≡ true → AllByRecursion (IsMarked made) (numbers_above W n)
