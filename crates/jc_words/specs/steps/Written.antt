-- A number in the form that `make` takes.
use Rattle.std.specs.Prelude.{◌≡◌, ◌≤◌, ℕ}
use Rattle.std.specs.Fmt.{decimal}
use Rattle.clap.specs.Walk.{Text}

-- it is from 1 to 4,096, and the text is its decimal digits
pub record IsWritten (text : Text) (n : ℕ) : Type 0 where
  pub least : 1 ≤ n
  pub most : n ≤ 4096
  pub written : text ≡ decimal n
