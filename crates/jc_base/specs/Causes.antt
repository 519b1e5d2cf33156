use Rattle.std.specs.Prelude.{ℕ, List, ◌≡◌, ◌≢◌, ◌+◌, ◌-◌, ◌^◌, ◌≤◌, min}

-- A count rose in a call: it is greater at the end, or stood at the last value of a u64 at the start.
abbrev pub Rose : ℕ → ℕ → Type 0
Rose before now = min (before + 1) (2 ^ 64 - 1) ≤ now

-- A count rose in a call by one, or stayed at the last value of a u64.
abbrev pub RoseByOne : ℕ → ℕ → Type 0
RoseByOne before now = now ≡ min (before + 1) (2 ^ 64 - 1)

-- The counts of all roots are as they were.
abbrev pub KeepsCounts : (List ℕ → ℕ) → (List ℕ → ℕ) → Type 0
KeepsCounts before now = (root : List ℕ) → now root ≡ before root

-- The counts of all roots but this one are as they were.
abbrev pub KeepsOtherCounts : List ℕ → (List ℕ → ℕ) → (List ℕ → ℕ) → Type 0
KeepsOtherCounts root before now = (other : List ℕ) → other ≢ root → now other ≡ before other
