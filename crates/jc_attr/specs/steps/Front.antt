-- Items that were read, and those that are still read.
use Rattle.std.specs.Prelude.{ℕ, List, ◌++◌, Option, Result, Ok, slice_get}
use Rattle.jc_desc.specs.declared.fault.Fault.{Fault}
use Rattle.jc_desc.specs.Faults.{◌>>=◌}
use Rattle.jc_facts.specs.Names.{Bytes}

-- what was read before, in front of what is read
abbrev pub with_front : {A : Type 0} → List A → Result (List A × Bytes) Fault → Result (List A × Bytes) Fault
with_front front read = read >>= λ x. Ok (front ++ x.0, x.1)

-- the item of this number among those that are read
abbrev pub picked : {A : Type 0} → ℕ → Result (List A × Bytes) Fault → Result (Option A × Bytes) Fault
picked number read = read >>= λ x. Ok (slice_get x.0 number, x.1)
