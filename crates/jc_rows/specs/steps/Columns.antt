-- The rows of all classes, made one after the other.
use Rattle.std.specs.Prelude.{ℕ, ◌≡◌, List, [], length, true, slice_index_or}
use Rattle.std.specs.List.{All, Contains}
use Rattle.jc_facts.specs.Names.{Bytes}
use Rattle.jc_facts.specs.world.World.{World, size}
use Rattle.jc_index.specs.Ids.{name_at}
use Rattle.jc_rows.specs.declared.row.RowItem.{RowItem}
use Rattle.jc_rows.specs.WithRows.{has_rows}
use Rattle.jc_rows.specs.steps.Gathering.{AreRising}

-- there is a row for each class, and all are empty
pub record AreEmpty (W : World) (rows : List (List RowItem)) : Type 0 where
  pub count : length rows ≡ size W
  pub empty : All (λ r. r ≡ []) rows

-- there is a row for each class: those of these classes that have rows are right, and the others are empty
pub record AreMade (P : Bytes → List RowItem → Type 0) (W : World) (done : List ℕ) (rows : List (List RowItem)) : Type 0 where
  pub rising : AreRising W rows
  pub made : (m : ℕ) → Contains done m → has_rows W (name_at W m) ≡ true → P (name_at W m) (slice_index_or rows m [])
  pub others : (m : ℕ) → (Contains done m → has_rows W (name_at W m) ≡ true → ⊥) → slice_index_or rows m [] ≡ []
