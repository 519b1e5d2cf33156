-- What a writer took of bytes.
use Rattle.std.specs.Prelude.{◌≡◌, ◌≤◌, ℕ, Bool, true, List, Option, length, take}
use Rattle.std.specs.Io.KnownBytes.{Appends}

-- a prefix of the bytes was appended to what is known of the writer, and all of them where it says so
pub record IsWrittenSo (old new : Option (List ℕ)) (bytes : List ℕ) (whole : Bool) : Type 0 where
  pub count : ℕ
  pub within : count ≤ length bytes
  pub front : Appends old new (take count bytes)
  pub all : whole ≡ true → Appends old new bytes
