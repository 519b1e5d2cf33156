-- What is led to in a graph of numbers.
use Rattle.std.specs.Prelude.{ℕ, Bool, List, [], ◌<◌, ◌≡◌, true, length, slice_index_or}
use Rattle.std.specs.List.{All, Contains}

-- the numbers that the number k names
abbrev pub next_of : List (List ℕ) → ℕ → List ℕ
next_of edges k = slice_index_or edges k []

-- the list has what is led to from a number: what it names, and what each that the list has names in turn. And it has nothing
-- else: a test that what the number names passes, and that is handed on by naming, everything in the list passes
pub record IsLedTo (edges : List (List ℕ)) (start : ℕ) (ids : List ℕ) : Type 0 where
  pub first : All (Contains ids) (next_of edges start)
  pub further : (k : ℕ) → Contains ids k → All (Contains ids) (next_of edges k)
  pub least : (p : ℕ → Bool) → All (λ k. p k ≡ true) (next_of edges start) → ((k : ℕ) → p k ≡ true → All (λ j. p j ≡ true) (next_of edges k))
      → (k : ℕ) → Contains ids k → p k ≡ true

-- the list has only such numbers, and with each what that one names
pub record AreLedTo (edges : List (List ℕ)) (start : ℕ) (ids : List ℕ) : Type 0 where
  pub further : (k : ℕ) → Contains ids k → All (Contains ids) (next_of edges k)
  pub least : (p : ℕ → Bool) → All (λ k. p k ≡ true) (next_of edges start) → ((k : ℕ) → p k ≡ true → All (λ j. p j ≡ true) (next_of edges k))
      → (k : ℕ) → Contains ids k → p k ≡ true

-- for each number a list that has what is led to from it
pub record AllLedTo (edges : List (List ℕ)) (rows : List (List ℕ)) : Type 0 where
  pub count : length rows ≡ length edges
  pub led : (n : ℕ) → n < length edges → IsLedTo edges n (slice_index_or rows n [])
