-- Where the classes stand that a class of a list names above itself.
use Rattle.std.specs.Prelude.{ℕ, ◌≡◌, List, Option, Some, map, slice_get}
use Rattle.jc_facts.specs.declared.class_facts.ClassFacts.{ClassFacts}
use Rattle.jc_facts.specs.Names.{Bytes}
use Rattle.jc_facts.specs.Options.{and_then}
use Rattle.jc_facts.specs.world.Search.{supers}
use Rattle.jc_index.specs.Ids.{place_of}
use Rattle.jc_index.specs.steps.Order.{names_at}

-- the places of the classes that the class names above itself, its superclass first, none at a name that no class of the list has
abbrev pub places_above : List ClassFacts → ClassFacts → List (Option ℕ)
places_above cs c = map (place_of (names_at cs)) (supers c)

-- the one at `at` of those that the class at this place names
abbrev pub place_above : List ClassFacts → ℕ → ℕ → Option ℕ
place_above cs place at = and_then (λ c. and_then (place_of (names_at cs)) (slice_get (supers c) at)) (slice_get cs place)

-- the first one in the row of this place
abbrev pub first_place : List (List (Option ℕ)) → ℕ → Option ℕ
first_place rows place = and_then (λ row. and_then (λ above. above) (slice_get row 0)) (slice_get rows place)

-- x is the one at `at` of the names that the class at this place has above itself
pub record IsAbove (cs : List ClassFacts) (place at : ℕ) (x : Bytes) : Type 0 where
  pub class : ClassFacts
  pub there : slice_get cs place ≡ Some class
  pub named : slice_get (supers class) at ≡ Some x
