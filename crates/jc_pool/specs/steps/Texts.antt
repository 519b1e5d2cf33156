-- Texts whose characters have one byte.
use Rattle.std.specs.Prelude.{ℕ, Bool, ◌==◌, ◌&&◌, not, nat_lt}

-- 0x01 to 0x7f, a character of its own
abbrev pub is_single_byte : ℕ → Bool
is_single_byte b = not (b == 0) && nat_lt b 128
