-- What stands at an index of a pool.
use Rattle.std.specs.Prelude.{ℕ, List}
use Rattle.jc_desc.specs.Pool.{PoolOf, slot_of_index}

-- the bytes behind the tag of the entry at the index, of a Utf8 its text
abbrev pub body_at : PoolOf → ℕ → List ℕ
body_at pool i = (slot_of_index pool.slots i).body
