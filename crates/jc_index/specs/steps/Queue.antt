-- A queue that grows by numbers that are new.
use Rattle.std.specs.Prelude.{ℕ, Bool, true, suc, zero, ◌+◌, ◌<◌, List, ◌++◌, ◌≡◌, length, cond, nat_eq, slice_index_or}
use Rattle.std.specs.List.{All, list_any}

-- the queue has the number
abbrev pub is_in : List ℕ → ℕ → Bool
is_in queue k = list_any (λ x. nat_eq x k) queue

abbrev pub Has : List ℕ → ℕ → Type 0
Has queue k = is_in queue k ≡ true

-- for each number of the queue its place there is kept
pub record ArePlaces (places queue : List ℕ) : Type 0 where
  pub within : All (λ id. id < length places) queue
  pub right : (p : ℕ) → p < length queue → slice_index_or places (slice_index_or queue p 0) 0 ≡ p

-- how many numbers below n the queue doesn't have
abbrev pub missing : ℕ → List ℕ → ℕ
missing zero queue = 0
missing (suc n) queue = cond (is_in queue n) 0 1 + missing n queue

-- these ids were added to the end of the queue where they were new
pub record Enqueues (queue longer : List ℕ) (ids : List ℕ) : Type 0 where
  pub keeps : (k : ℕ) → Has queue k → Has longer k
  pub has : All (Has longer) ids
  pub only : (p : ℕ → Bool) → ((k : ℕ) → Has queue k → p k ≡ true) → All (λ id. p id ≡ true) ids → (k : ℕ) → Has longer k → p k ≡ true
  pub end : List ℕ
  pub longer_by : longer ≡ queue ++ end
  pub counted : (n : ℕ) → All (λ id. id < n) ids → missing n longer + length longer ≡ missing n queue + length queue
