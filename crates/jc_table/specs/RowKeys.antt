-- The keys of a row.
use Rattle.std.specs.Prelude.{ℕ, ◌≡◌, true, List, Option, Some, is_some, slice_get}
use Rattle.std.specs.List.{filter_map}
use Rattle.jc_facts.specs.declared.key.Key.{Key}
use Rattle.jc_facts.specs.file.Valid.{has_key}
use Rattle.jc_facts.specs.world.World.{World}
use Rattle.jc_facts.specs.Options.{and_then}
use Rattle.jc_index.specs.declared.ids.Found.{Found}
use Rattle.jc_rows.specs.declared.row.RowItem.{RowItem}
use Rattle.jc_rows.specs.Keys.{numbered_keys, IsNumber}
use Rattle.jc_rows.specs.Rows.{entry}

-- the keys of the row's items
abbrev pub keys_of_row : World → List RowItem → List Key
keys_of_row W row = filter_map (λ i. slice_get (numbered_keys W) i.key) row

-- each key for which the row has an entry is among these
abbrev pub HaveKeysOf : World → List RowItem → List Key → Type 0
HaveKeysOf W row keys = (n : ℕ) (k : Key) → slice_get (numbered_keys W) n ≡ Some k → is_some (entry row n) ≡ true → has_key k keys ≡ true

-- r is the row's entry for the number of the key, none where the key has no number
abbrev pub HasForKey : World → List RowItem → Key → Option Found → Type 0
HasForKey W row k r = (o : Option ℕ) × IsNumber (numbered_keys W) k o × (r ≡ and_then (entry row) o)
