-- Rows: what the lookups from a class find, by the numbers of keys.
--     entry row n      the member that the row has for the key of number n, none where it has none
--     IsFieldRow W x row      the row has for each key the field that a reference to the class x finds, and nothing else
--     IsMethodRow W x row      the same for methods
use Rattle.std.specs.Prelude.{ℕ, ◌≡◌, ◌≤◌, ◌+◌, cond, nat_eq, Bool, true, false, List, [], ◌∷◌, Option, None, Some, slice_get}
use Rattle.jc_facts.specs.declared.key.Key.{Key}
use Rattle.jc_facts.specs.Names.{Bytes}
use Rattle.jc_facts.specs.world.World.{World, DeclaredMember}
use Rattle.jc_facts.specs.world.Assignment.{is_interface_of}
use Rattle.jc_facts.specs.world.Lookup.{field_found, method_choices, interface_choices}
use Rattle.jc_index.specs.Lookups.{IsAnswer, IsChoice}
use Rattle.jc_index.specs.Picks.{Picks}
use Rattle.jc_index.specs.declared.ids.Found.{Found}
use Rattle.jc_rows.specs.Keys.{numbered_keys}
use Rattle.jc_rows.specs.declared.row.RowItem.{RowItem}
use Rattle.jc_rows.specs.steps.Fronts.{front_method}

-- the key numbers rise, and none is less than n
abbrev pub RisesFrom : ℕ → List RowItem → Type 0
RisesFrom n [] = Unit {0}
RisesFrom n (i ∷ is) = (n ≤ i.key) × RisesFrom (i.key + 1) is

-- the key numbers rise
abbrev pub Rises : List RowItem → Type 0
Rises row = RisesFrom 0 row

-- the member that the row has for the key of this number
abbrev pub entry : List RowItem → ℕ → Option Found
entry [] n = None
entry (i ∷ is) n = cond (nat_eq i.key n) (Some i.found) (entry is n)

-- ---- what a row holds

-- the row has, for each key, what `f` finds of it, and nothing else; the key numbers rise
pub record IsRow (W : World) (f : Key → Option DeclaredMember) (row : List RowItem) : Type 0 where
  pub rises : Rises row
  pub found : (n : ℕ) (k : Key) → slice_get (numbered_keys W) n ≡ Some k → IsAnswer W (entry row n) (f k)
  pub within : (n : ℕ) → slice_get (numbered_keys W) n ≡ None → entry row n ≡ None

-- ---- the two rows of a class

-- the row has, for each key, the field that a reference to the class x finds, and nothing else (JVMS 5.4.3.2)
abbrev pub IsFieldRow : World → Bytes → List RowItem → Type 0
IsFieldRow W x row = IsRow W (field_found W x) row

-- what a reference to an interface may find, or to another class
abbrev pub choices_by : Bool → World → Bytes → Key → List DeclaredMember
choices_by true W x k = interface_choices W x k
choices_by false W x k = method_choices W x k

-- what a reference to x may find, as an interface where it is one (JVMS 5.4.3.3, 5.4.3.4)
abbrev pub lookup_choices : World → Bytes → Key → List DeclaredMember
lookup_choices W x k = choices_by (is_interface_of W x) W x k

-- what the row has for the key is a method that a reference to x may find, nothing where it finds none; where only superinterfaces
-- give one, it is one that is picked of theirs
pub record IsMethodEntry (W : World) (x : Bytes) (k : Key) (found : Option Found) : Type 0 where
  pub choice : IsChoice W found (lookup_choices W x k)
  pub pick : front_method W x k ≡ None → Picks W x k found

-- the row has, for each key, a method that a reference to x may find, and nothing else; the key numbers rise (JVMS 5.4.3.3, 5.4.3.4).
-- What it has of superinterfaces is one that is picked of theirs
pub record IsMethodRow (W : World) (x : Bytes) (row : List RowItem) : Type 0 where
  pub rises : Rises row
  pub found : (n : ℕ) (k : Key) → slice_get (numbered_keys W) n ≡ Some k → IsChoice W (entry row n) (lookup_choices W x k)
  pub picked : (n : ℕ) (k : Key) → slice_get (numbered_keys W) n ≡ Some k → front_method W x k ≡ None → Picks W x k (entry row n)
  pub within : (n : ℕ) → slice_get (numbered_keys W) n ≡ None → entry row n ≡ None
