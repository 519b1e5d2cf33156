-- How long the names of wanted classes are.
--     may_be lengths n      a wanted class may have a name of so many bytes
--     HaveLengths W wanted many lengths      so it is said of each wanted class among the first so many
use Rattle.std.specs.Prelude.{◌≡◌, ◌<◌, ℕ, Bool, true, List, length, slice_index_or}
use Rattle.jc_facts.specs.world.World.{World}
use Rattle.jc_index.specs.Ids.{name_at}
use Rattle.jc_acts.specs.Touched.{flag_at}

-- a length without a mark may be that of any class
abbrev pub may_be : List Bool → ℕ → Bool
may_be lengths n = slice_index_or lengths n true

-- each wanted class of the first so many may have a name as long as its own
abbrev pub HaveLengths : World → List Bool → ℕ → List Bool → Type 0
HaveLengths W wanted many lengths = (t : ℕ) → t < many → flag_at wanted t ≡ true → may_be lengths (length (name_at W t)) ≡ true

-- what may be before may be after
abbrev pub Keeps : List Bool → List Bool → Type 0
Keeps before after = (n : ℕ) → may_be before n ≡ true → may_be after n ≡ true
