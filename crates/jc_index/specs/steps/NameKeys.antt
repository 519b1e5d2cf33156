-- Names of a set, and bytes that are looked for among them.
use Rattle.std.specs.Prelude.{ℕ, List}
use Rattle.jc_index.specs.declared.name_key.Held.{Held}
use Rattle.jc_index.specs.declared.name_key.Held.TheVariants.{Kept, Asked}

-- the bytes that are held
abbrev pub bytes_held : Held → List ℕ
bytes_held (Kept name) = name
bytes_held (Asked bytes) = bytes.now
