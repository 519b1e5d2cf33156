-- What a gate is told, and what it has seen.
use Rattle.std.specs.Prelude.{ℕ, List, [], ◌∷◌, Option, Some, None}

-- the state once the step is told, where there is one
abbrev pub informed_by : (ℕ → ℕ → ℕ) → ℕ → Option ℕ → ℕ
informed_by informed state None = state
informed_by informed state (Some step) = informed state step

-- the state after the rules were seen in their order
abbrev pub seen : (ℕ → ℕ → ℕ) → ℕ → List ℕ → ℕ
seen after state [] = state
seen after state (rule ∷ rules) = seen after (after state rule) rules
