-- Which calls of an object in memory fail: those whose numbers, counted from 1, are listed.
use Rattle.std.specs.Prelude.{ℕ, Bool, List, ◌+◌, ◌-◌, ◌^◌, ◌==◌, ◌&&◌, nat_lt, min}
use Rattle.std.specs.List.{list_any}

-- how many calls were made, and the numbers of those that fail
pub record Plan : Type 0 where
  pub calls : ℕ
  pub failing : List ℕ

-- the next call fails; none does once the counter stands at the last value of a u64
abbrev pub fails_next : Plan → Bool
fails_next p = nat_lt p.calls (2 ^ 64 - 1) && list_any (λ n. n == p.calls + 1) p.failing

-- one more call was made; the counter stays at the last value of a u64
abbrev pub after_call : Plan → Plan
after_call p = record { calls = min (p.calls + 1) (2 ^ 64 - 1); failing = p.failing }
