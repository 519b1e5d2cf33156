-- The rows of all classes of a world.
use Rattle.std.specs.Prelude.{ℕ, ◌≡◌, ◌<◌, List, [], length, map, None, true, slice_index_or}
use Rattle.jc_facts.specs.Names.{Bytes}
use Rattle.jc_facts.specs.world.World.{World, size}
use Rattle.jc_facts.specs.world.Loading.{load_fault}
use Rattle.jc_index.specs.Ids.{name_at, names}
use Rattle.jc_rows.specs.declared.row.RowItem.{RowItem}
use Rattle.jc_rows.specs.declared.rows.Rows.{Rows}
use Rattle.jc_rows.specs.Keys.{numbered_keys}
use Rattle.jc_rows.specs.Rows.{IsFieldRow, IsMethodRow}
use Rattle.jc_rows.specs.WithRows.{has_rows}

-- there is a row for each class, by its number: that of each class that loads and has rows is right, and of any other class it is
-- empty
pub record HasRows (P : Bytes → List RowItem → Type 0) (W : World) (rows : List (List RowItem)) : Type 0 where
  pub count : length rows ≡ size W
  pub right : (n : ℕ) → n < size W → load_fault W (name_at W n) ≡ None → has_rows W (name_at W n) ≡ true → P (name_at W n) (slice_index_or rows n [])
  pub others : (n : ℕ) → n < size W → (load_fault W (name_at W n) ≡ None → has_rows W (name_at W n) ≡ true → ⊥) → slice_index_or rows n [] ≡ []

-- the keys are numbered, and each class that loads and has rows has both
pub record AreRows (W : World) (rows : Rows) : Type 0 where
  pub keys : rows.keys ≡ numbered_keys W
  pub made : rows.made.items ≡ map (has_rows W) (names W)
  pub fields : HasRows (IsFieldRow W) W rows.fields.items
  pub methods : HasRows (IsMethodRow W) W rows.methods.items
