-- What may be there or not.
use Rattle.std.specs.Prelude.{Bool, false, cond, List, [], ◌∷◌, Option, None, Some, ℕ}

-- the first of two where it gives something, else the second
unfoldable pub or_else : {A : Type 0} → Option A → Option A → Option A
or_else None o = o
or_else (Some x) o = Some x

-- what `f` gives of the first of the names of which it gives something
unfoldable pub first_some : {A : Type 0} → (List ℕ → Option A) → List (List ℕ) → Option A
first_some f [] = None
first_some f (x ∷ xs) = or_else (f x) (first_some f xs)

-- what `f` gives of what is there
unfoldable pub and_then : {X A : Type 0} → (X → Option A) → Option X → Option A
and_then f None = None
and_then f (Some x) = f x

-- something is there, and passes the test
abbrev pub some_and : {A : Type 0} → (A → Bool) → Option A → Bool
some_and test None = false
some_and test (Some x) = test x

-- the value, where the test holds
abbrev pub some_where : {A : Type 0} → Bool → A → Option A
some_where b x = cond b (Some x) None
