-- Generated releases: how many classes they may have, and the verdict on them.
use Rattle.std.specs.Prelude.{◌≤◌, ℕ}
use Rattle.jc_facts.specs.declared.verdict.Verdict.{Verdict}
use Rattle.jc_facts.specs.Generated.{made}
use Rattle.jc_promises.specs.rule.Verdict.{IsVerdict}
use Rattle.jc_facts.specs.world.World.{World, side}

-- so many classes may be generated. Of them nothing is read
pub record IsSize (n : ℕ) : Type 0 where
  pub some : 1 ≤ n
  pub few : n ≤ 4096

-- the platform with the old release of n classes, and with the new one
abbrev pub old_made : ℕ → World
old_made n = side (made n).platform (made n).old

abbrev pub new_made : ℕ → World
new_made n = side (made n).platform (made n).new

-- the verdict on the two, however many findings it has
abbrev pub IsVerdictOnMade : ℕ → Verdict → Type 0
IsVerdictOnMade n v = IsVerdict (old_made n) (new_made n) v
