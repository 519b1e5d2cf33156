-- The numbers of rules.
use Rattle.std.specs.Prelude.{ℕ, Bool, ◌&&◌, nat_le}

-- the rules of findings are 1 to 9
abbrev pub is_of_finding : ℕ → Bool
is_of_finding rule = nat_le 1 rule && nat_le rule 9

-- those of collisions are 10 to 12
abbrev pub is_of_collision : ℕ → Bool
is_of_collision rule = nat_le 10 rule && nat_le rule 12
