-- Keys that name classes, while they are collected.
use Rattle.std.specs.Prelude.{◌≡◌, ◌==◌, ◌&&◌, ℕ, Bool, true, List}
use Rattle.std.specs.List.{list_any}
use Rattle.jc_facts.specs.declared.key.Key.{Key}
use Rattle.jc_exposed.specs.declared.namings.Naming.{Naming}

-- of the classes of the numbers that are on, the keys name exactly those of which p says so; g tells of a key whatever is asked of it
pub record Gives (on : ℕ → Bool) (p : (Key → Bool) → ℕ → Bool) (ns : List Naming) : Type 0 where
  pub exact : (g : Key → Bool) (t : ℕ) → on t ≡ true → list_any (λ n. (n.exposed == t) && g n.key) ns ≡ p g t
