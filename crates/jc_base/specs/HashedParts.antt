-- What of a name is hashed.
use Rattle.std.specs.Prelude.{ℕ, List, [], ◌∷◌, ◌-◌, ◌/◌, nat_le, length, take, drop, if◌then◌else◌}
use Rattle.jc_base.specs.declared.name.TheConstants.{HASHED}

-- all bytes of one that is short enough, and else half as many as are hashed from each end
abbrev pub hashed_parts : List ℕ → List (List ℕ)
hashed_parts bytes = if nat_le (length bytes) HASHED then bytes ∷ [] else take (HASHED / 2) bytes ∷ drop (length bytes - HASHED / 2) bytes ∷ []
