-- The keys of the fields that a reference finds.
use Rattle.std.specs.Prelude.{◌≡◌, true, List, is_some}
use Rattle.jc_facts.specs.declared.key.Key.{Key}
use Rattle.jc_facts.specs.Names.{Bytes}
use Rattle.jc_facts.specs.file.Valid.{has_key}
use Rattle.jc_facts.specs.world.World.{World}
use Rattle.jc_facts.specs.world.Lookup.{field_found}

-- each key of which a reference to the class x finds a field is among these
abbrev pub HaveFound : World → Bytes → List Key → Type 0
HaveFound W x keys = (k : Key) → is_some (field_found W x k) ≡ true → has_key k keys ≡ true
