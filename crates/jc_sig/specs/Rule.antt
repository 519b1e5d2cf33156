-- A rule for what follows the first : of a type parameter. The grammar doesn't need it: each of its texts meets it.
use Rattle.std.specs.Prelude.{ℕ, Bool, true, false, ◌||◌, ◌&&◌, ◌==◌, List, [], ◌∷◌, if◌then◌else◌}

-- a ; comes before the next :
abbrev pub semicolon_before_colon : List ℕ → Bool
semicolon_before_colon [] = false
semicolon_before_colon (b ∷ bs) = if b == 59 then true else if b == 58 then false else semicolon_before_colon bs

-- a bound stands in front: a [, or an L or a T with a ; before the next :
abbrev pub is_bound_by_rule : List ℕ → Bool
is_bound_by_rule [] = false
is_bound_by_rule (b ∷ bs) = b == 91 || ((b == 76 || b == 84) && semicolon_before_colon bs)
