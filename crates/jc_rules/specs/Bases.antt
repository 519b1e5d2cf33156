-- The bases, by their numbers on the old side.
use Rattle.std.specs.Prelude.{ℕ, ◌<◌, ◌≡◌, List, map}
use Rattle.std.specs.List.{All, filter}
use Rattle.jc_facts.specs.world.World.{World, size}
use Rattle.jc_index.specs.Ids.{name_at, names}
use Rattle.jc_promises.specs.rule.Warnings.{is_base}

-- these are the numbers on the old side of all bases, in byte order of their names
pub record AreBases (O N : World) (ids : List ℕ) : Type 0 where
  pub within : All (λ n. n < size O) ids
  pub all : map (name_at O) ids ≡ filter (is_base O N) (names O)
