-- Two rows that are merged.
use Rattle.std.specs.Prelude.{ℕ, ◌≡◌, ◌++◌, List}
use Rattle.jc_facts.specs.Options.{or_else}
use Rattle.jc_rows.specs.declared.row.RowItem.{RowItem}
use Rattle.jc_rows.specs.Rows.{Rises, entry}

-- `done` has been made of both, and so much of each is left
pub record IsUnderWay (first second done left right : List RowItem) : Type 0 where
  pub first_rises : Rises (done ++ left)
  pub second_rises : Rises (done ++ right)
  pub entries : (n : ℕ) → or_else (entry (done ++ left) n) (entry (done ++ right) n) ≡ or_else (entry first n) (entry second n)

-- the row has the entries of both; where both have one for a key, that of the first
pub record IsMerged (first second row : List RowItem) : Type 0 where
  pub rises : Rises row
  pub entries : (n : ℕ) → entry row n ≡ or_else (entry first n) (entry second n)

-- the row has the items in the order of their keys, of those of one key the first
pub record IsRowOf (items row : List RowItem) : Type 0 where
  pub rises : Rises row
  pub entries : (n : ℕ) → entry row n ≡ entry items n
