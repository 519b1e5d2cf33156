-- Lists as parts of one list, made one after the other.
use Rattle.std.specs.Prelude.{ℕ, ◌<◌, ◌≤◌, ◌+◌, ◌≡◌, true, List, [], ◌++◌, length, Option, None, Some, is_some, slice_range, slice_index_or}
use Rattle.jc_index.specs.declared.part.Part.{Part}
use Rattle.jc_index.specs.steps.Reach.{IsLedTo}

-- the part lies in the list
pub record LiesIn (ids : List ℕ) (part : Part) : Type 0 where
  pub order : part.start ≤ part.end
  pub inside : part.end ≤ length ids

-- each part that is made does
abbrev pub LieIn : List ℕ → List (Option Part) → Type 0
LieIn ids parts = (n : ℕ) (part : Part) → slice_index_or parts n None ≡ Some part → LiesIn ids part

-- what stands in a part; nothing where it isn't made
abbrev pub items_of : List ℕ → Option Part → List ℕ
items_of ids None = []
items_of ids (Some part) = slice_range ids part.start part.end

-- the longer list begins with the other one
pub record Extends (ids longer : List ℕ) : Type 0 where
  pub end : List ℕ
  pub longer_by : longer ≡ ids ++ end

-- the longer part has one number more, which stands after the other part
pub record IsLonger (ids : List ℕ) (part : Part) (number : ℕ) (longer : Part) : Type 0 where
  pub start : longer.start ≡ part.start
  pub end : longer.end ≡ part.end + 1
  pub inside : part.end < length ids
  pub next : slice_index_or ids part.end 0 ≡ number

-- the part has what is led to from the number n
pub record IsPartOf (edges : List (List ℕ)) (ids : List ℕ) (n : ℕ) (part : Part) : Type 0 where
  pub lies : LiesIn ids part
  pub led : IsLedTo edges n (slice_range ids part.start part.end)

-- the part of the number n is made
abbrev pub IsMade : List (Option Part) → ℕ → Type 0
IsMade parts n = is_some (slice_index_or parts n None) ≡ true

-- what was made still is
abbrev pub StayMade : List (Option Part) → List (Option Part) → Type 0
StayMade before after = (n : ℕ) → IsMade before n → IsMade after n

-- there is a part for each number, and each that is made has what is led to from its number
pub record AreParts (edges : List (List ℕ)) (ids : List ℕ) (parts : List (Option Part)) : Type 0 where
  pub count : length parts ≡ length edges
  pub right : (n : ℕ) (part : Part) → slice_index_or parts n None ≡ Some part → IsPartOf edges ids n part
