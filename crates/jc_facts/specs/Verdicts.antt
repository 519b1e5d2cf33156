-- What a verdict says by its lists alone.
--     count_of v      how many findings and collisions there are
--     is_incompatible v      there is a finding
use Rattle.std.specs.Prelude.{◌+◌, ℕ, Bool, List, [], ◌∷◌, length, true, false}
use Rattle.jc_facts.specs.declared.verdict.Verdict.{Verdict}

-- how many findings and collisions there are
abbrev pub count_of : Verdict → ℕ
count_of v = length v.findings + length v.collisions

-- the list holds something
abbrev pub holds_some : {A : Type 0} → List A → Bool
holds_some [] = false
holds_some (x ∷ xs) = true

-- the verdict is `incompatible`: there is a finding
abbrev pub is_incompatible : Verdict → Bool
is_incompatible v = holds_some v.findings
