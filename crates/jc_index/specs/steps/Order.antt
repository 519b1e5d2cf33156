-- Where the classes of a list stand, in byte order of their names.
use Rattle.std.specs.Prelude.{ℕ, ◌<◌, ◌+◌, ◌≡◌, List, [], map, length, Some, slice_index_or}
use Rattle.std.specs.List.{All}
use Rattle.jc_facts.specs.declared.class_facts.ClassFacts.{ClassFacts}
use Rattle.jc_facts.specs.Names.{Bytes}
use Rattle.jc_index.specs.Ids.{names_of, place_of, name_in}

-- the names of the classes, as they stand
abbrev pub names_at : List ClassFacts → List Bytes
names_at cs = map (λ c. c.name) cs

-- a name, and the place of a class of this name
abbrev pub IsPlace : List ClassFacts → Bytes × ℕ → Type 0
IsPlace cs p = (p.1 < length cs) × (name_in cs p.1 ≡ p.0)

-- the places of the classes, in byte order of their names
pub record IsOrder (cs : List ClassFacts) (order : List ℕ) : Type 0 where
  pub within : All (λ at. at < length cs) order
  pub named : map (name_in cs) order ≡ names_of cs

-- the name and the place of the class that stands so far behind the first `before` classes
abbrev pub place_after : List ClassFacts → ℕ → ℕ → Bytes × ℕ
place_after cs before at = (name_in cs (before + at), before + at)

-- for each place the number of the class there
pub record AreNumbers (cs : List ClassFacts) (numbers : List ℕ) : Type 0 where
  pub count : length numbers ≡ length cs
  pub each : (at : ℕ) → at < length cs → place_of (names_of cs) (slice_index_or (names_at cs) at []) ≡ Some (slice_index_or numbers at 0)
