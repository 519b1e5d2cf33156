-- The classes of a world that descriptors name, by their numbers.
use Rattle.std.specs.Prelude.{◌<◌, ◌≡◌, ◌==◌, ℕ, Bool, true, List}
use Rattle.std.specs.List.{list_any}
use Rattle.jc_facts.specs.Names.{Bytes}
use Rattle.jc_facts.specs.world.World.{World, size}
use Rattle.jc_index.specs.Ids.{name_at}

-- of the world's classes that are on, these are the numbers of those whose names pass
pub record Lists (W : World) (on : ℕ → Bool) (p : Bytes → Bool) (ids : List ℕ) : Type 0 where
  pub exact : (t : ℕ) → t < size W → on t ≡ true → list_any (λ n. n == t) ids ≡ p (name_at W t)
