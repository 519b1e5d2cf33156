-- What a class has in its row, and the rows of the classes that it names above itself.
use Rattle.std.specs.Prelude.{ℕ, ◌≡◌, List, [], length, Option, None, Some, slice_index_or}
use Rattle.std.specs.List.{All}
use Rattle.jc_facts.specs.declared.class_facts.ClassFacts.{ClassFacts}
use Rattle.jc_facts.specs.Names.{Bytes}
use Rattle.jc_facts.specs.Options.{or_else, first_some, and_then}
use Rattle.jc_facts.specs.world.World.{World, size, find_class}
use Rattle.jc_facts.specs.world.Search.{supers}
use Rattle.jc_index.specs.Ids.{id_of}
use Rattle.jc_index.specs.declared.ids.Found.{Found}
use Rattle.jc_rows.specs.declared.row.RowItem.{RowItem}
use Rattle.jc_rows.specs.Rows.{Rises, entry}

-- there is a row for each class, and the key numbers of each rise
pub record AreRising (W : World) (rows : List (List RowItem)) : Type 0 where
  pub count : length rows ≡ size W
  pub rise : All Rises rows

-- the row of this number
abbrev pub row_at : List (List RowItem) → Option ℕ → List RowItem
row_at rows None = []
row_at rows (Some n) = slice_index_or rows n []

-- the row of the class of this name, of rows by numbers of classes; nothing where there is no such class
abbrev pub row_named : World → List (List RowItem) → Bytes → List RowItem
row_named W rows x = row_at rows (id_of W x)

-- the rows of all classes that the class x names above itself are right
abbrev pub HasAbove : (Bytes → List RowItem → Type 0) → World → List (List RowItem) → Bytes → Type 0
HasAbove P W rows x = (c : ClassFacts) → find_class W x ≡ Some c → All (λ s. P s (row_named W rows s)) (supers c)

-- ---- gathering

-- the entry for the number that the first of the rows of these classes has
abbrev pub first_entry : World → List (List RowItem) → List Bytes → ℕ → Option Found
first_entry W rows xs n = first_some (λ x. entry (row_named W rows x) n) xs

-- the entry of the superclass's row
abbrev pub super_entry : World → List (List RowItem) → Option Bytes → ℕ → Option Found
super_entry W rows s n = and_then (λ x. entry (row_named W rows x) n) s

-- the row has what the first has, else what the rows of these classes have, in order
pub record AddsRows (W : World) (rows : List (List RowItem)) (xs : List Bytes) (first row : List RowItem) : Type 0 where
  pub rises : Rises row
  pub entries : (n : ℕ) → entry row n ≡ or_else (entry first n) (first_entry W rows xs n)

-- the same while the rows of some of the classes are still to be added
pub record IsAdding (W : World) (rows : List (List RowItem)) (xs : List Bytes) (first : List RowItem) (rest : List Bytes) (row : List RowItem) : Type 0 where
  pub rises : Rises row
  pub entries : (n : ℕ) → or_else (entry row n) (first_entry W rows rest n) ≡ or_else (entry first n) (first_entry W rows xs n)

-- the row has what the first has, else what the rows of the interfaces have, in order, else what the superclass's has
pub record Gathers (W : World) (rows : List (List RowItem)) (c : ClassFacts) (first row : List RowItem) : Type 0 where
  pub rises : Rises row
  pub entries : (n : ℕ) → entry row n ≡ or_else (entry first n) (or_else (first_entry W rows c.interfaces n) (super_entry W rows c.superclass n))
