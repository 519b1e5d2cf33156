-- Names that stand in a list more than once.
use Rattle.std.specs.Prelude.{ℕ, ◌<◌, ◌≡◌, List, Some, slice_get}

-- the name at this place stands at an earlier one too
pub record IsAgain (names : List (List ℕ)) (at earlier : ℕ) : Type 0 where
  pub after : earlier < at
  pub name : List ℕ
  pub there : slice_get names at ≡ Some name
  pub before : slice_get names earlier ≡ Some name
