-- The keys of the methods that a reference may find.
use Rattle.std.specs.Prelude.{◌≡◌, Bool, true, not, List}
use Rattle.jc_facts.specs.declared.key.Key.{Key}
use Rattle.jc_facts.specs.Names.{Bytes}
use Rattle.jc_facts.specs.file.Valid.{has_key}
use Rattle.jc_facts.specs.world.Lookup.{are_none}
use Rattle.jc_facts.specs.world.World.{World}
use Rattle.jc_rows.specs.Rows.{lookup_choices}

-- a reference to the class or the interface x finds a method of the key
abbrev pub finds_method : World → Bytes → Key → Bool
finds_method W x k = not (are_none (lookup_choices W x k))

-- each key of which it finds one is among these
abbrev pub HaveFound : World → Bytes → List Key → Type 0
HaveFound W x keys = (k : Key) → finds_method W x k ≡ true → has_key k keys ≡ true
