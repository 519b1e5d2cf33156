-- The word that says how many classes the generated releases have.
use Rattle.std.specs.Prelude.{◌&&◌, ℕ, Option, Some, None, nat_le, if◌then◌else◌}
use Rattle.std.specs.Fmt.{decimal}
use Rattle.std.specs.Str.{bytes_eq}
use Rattle.std.specs.Str.Parse.{digits_value}
use Rattle.clap.specs.Walk.{Text}

-- the number, where it is from 1 to 4,096 and its decimal digits are the text
abbrev pub if_written : Text → ℕ → Option ℕ
if_written text n = if bytes_eq text (decimal n) && (nat_le 1 n && nat_le n 4096) then Some n else None

-- the number from 1 to 4,096 that the text says in decimal digits, without a sign or a leading zero
abbrev pub number_of : Text → Option ℕ
number_of text = if_written text (digits_value 10 text)
