-- How many slots were read so far.
use Rattle.std.specs.Prelude.{ℕ, ◌+◌, List, Option, Some, None, min}
use Rattle.jc_desc.specs.Types.{TypeOf, slots_of}

-- with k slots before; at most 4,294,967,295
abbrev pub counted : ℕ → Option (List TypeOf × List ℕ) → Option (ℕ × List ℕ)
counted k None = None
counted k (Some x) = Some (min (k + slots_of x.0) 4294967295, x.1)
