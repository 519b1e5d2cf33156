-- The names that classes permit to extend them, kept in an order.
use Rattle.std.specs.Prelude.{◌≡◌, List, Some}
use Rattle.std.specs.List.{All}
use Rattle.std.specs.List.Sorted.{IsPermutation}
use Rattle.jc_facts.specs.declared.class_facts.ClassFacts.{ClassFacts}
use Rattle.jc_facts.specs.world.Mentioned.{permitted}
use Rattle.jc_facts.specs.world.World.{World, find_class}
use Rattle.jc_index.specs.Ids.{name_at}
use Rattle.jc_index.specs.declared.seals.Seal.{Seal}

-- the names are those that its class permits
abbrev pub IsSeal : World → Seal → Type 0
IsSeal W s = (c : ClassFacts) → Some c ≡ find_class W (name_at W s.owner) → IsPermutation (permitted c.permits) s.names

-- those of each are
abbrev pub AreSeals : World → List Seal → Type 0
AreSeals W seals = All (IsSeal W) seals
