-- What is known of names that stand in a list more than once.
use Rattle.std.specs.Prelude.{ℕ, ◌≡◌, List, Option, Some, slice_get}
use Rattle.jc_base.specs.Again.{IsAgain}

-- each name of which an earlier place is given stands there too
abbrev pub AreAgain : List (List ℕ) → List (Option ℕ) → Type 0
AreAgain names earlier = (at place : ℕ) → slice_get earlier at ≡ Some (Some place) → IsAgain names at place
