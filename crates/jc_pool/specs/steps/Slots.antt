-- What a reader of entries gives, behind those that it has read.
use Rattle.std.specs.Prelude.{ℕ, List, [], ◌∷◌, ◌++◌, Result, Ok, false}
use Rattle.jc_desc.specs.declared.fault.Fault.{Fault}
use Rattle.jc_desc.specs.Faults.{◌>>=◌}
use Rattle.jc_desc.specs.Pool as pool
use Rattle.jc_desc.specs.Pool.{nothing}
use Rattle.jc_desc.specs.PoolSteps.{slots_at}

-- what was read before, and what is still read
abbrev pub with_front : {A : Type 0} → List A → Result (List A × List ℕ) Fault → Result (List A × List ℕ) Fault
with_front front read = read >>= λ x. Ok (front ++ x.0, x.1)

-- the entries of indices 0 to count
abbrev pub all_slots_at : ℕ → List ℕ → Result (List pool.Slot × List ℕ) Fault
all_slots_at count bytes = with_front (nothing ∷ []) (slots_at false count bytes)
