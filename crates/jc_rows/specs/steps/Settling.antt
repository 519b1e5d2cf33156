-- A row of methods, item by item.
use Rattle.std.specs.Prelude.{ℕ, ◌≡◌, ◌++◌, List, Option, None, Some, slice_get}
use Rattle.jc_facts.specs.declared.key.Key.{Key}
use Rattle.jc_facts.specs.Names.{Bytes}
use Rattle.jc_facts.specs.world.World.{World}
use Rattle.jc_index.specs.Picks.{Picks}
use Rattle.jc_index.specs.declared.ids.Found.{Found}
use Rattle.jc_rows.specs.declared.row.RowItem.{RowItem}
use Rattle.jc_rows.specs.Keys.{numbered_keys}
use Rattle.jc_rows.specs.Rows.{Rises, entry, IsMethodEntry}
use Rattle.jc_rows.specs.steps.Fronts.{front_method}

-- where the front finds something it is that, else what is picked of the superinterfaces' methods
abbrev pub Settles : World → Bytes → Key → Option Found → Option Found → Type 0
Settles W x k (Some f) result = result ≡ Some f
Settles W x k None result = Picks W x k result

-- the row has an entry for each key of which something can be found
pub record IsSource (W : World) (x : Bytes) (all : List RowItem) : Type 0 where
  pub rises : Rises all
  pub within : (n : ℕ) → slice_get (numbered_keys W) n ≡ None → entry all n ≡ None
  pub complete : (n : ℕ) (k : Key) → slice_get (numbered_keys W) n ≡ Some k → entry all n ≡ None → (front_method W x k ≡ None) × Picks W x k None

-- so much is settled, and so much is left
pub record IsSettling (W : World) (x : Bytes) (rest done : List RowItem) : Type 0 where
  pub rises : Rises (done ++ rest)
  pub within : (n : ℕ) → slice_get (numbered_keys W) n ≡ None → entry (done ++ rest) n ≡ None
  pub right : (n : ℕ) (k : Key) → slice_get (numbered_keys W) n ≡ Some k → entry rest n ≡ None → IsMethodEntry W x k (entry done n)
