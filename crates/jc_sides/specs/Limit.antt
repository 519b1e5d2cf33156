-- How many things may be listed.
use Rattle.std.specs.Prelude.{◌≡◌, ◌-◌, ℕ, Bool, false, List, length, Option, None, Some, IsTrue, nat_lt}
use Rattle.std.specs.List.{All}
use Rattle.std.specs.declared.cmp.Ordering.{Ordering}
use Rattle.jc_facts.specs.Exactly.{Rises, HasExactly}

-- so many are more than the limit allows, where there is one
abbrev pub over : ℕ → Option ℕ → Bool
over n None = false
over n (Some most) = nat_lt most n

-- what the limit leaves beside so many
abbrev pub beside : Option ℕ → ℕ → Option ℕ
beside None n = None
beside (Some most) n = Some (most - n)

-- more things stand than the limit allows: some of them, in order
pub record HasMore {F : Type 0} (order : F → F → Ordering) (Stand : F → Type 0) (most : Option ℕ) : Type 0 where
  pub some : List F
  pub in_order : Rises order some
  pub stand : All Stand some
  pub many : IsTrue (over (length some) most)

-- the list has just what stands, and that is within the limit; there is no list where more stands
abbrev pub IsWithin : {F : Type 0} → (F → F → Ordering) → (F → Type 0) → Option ℕ → Option (List F) → Type 0
IsWithin order Stand most None = HasMore order Stand most
IsWithin order Stand most (Some xs) = HasExactly order Stand xs × (over (length xs) most ≡ false)
