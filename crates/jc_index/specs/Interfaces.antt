-- The interfaces that a class names, by their numbers.
use Rattle.std.specs.Prelude.{ℕ, List, [], Option, None, Some, map}
use Rattle.jc_facts.specs.declared.class_facts.ClassFacts.{ClassFacts}
use Rattle.jc_facts.specs.Names.{Bytes}
use Rattle.jc_facts.specs.world.World.{World, find_class}
use Rattle.jc_index.specs.Ids.{id_of}

-- the numbers of the classes that the class names as its interfaces, none at a name that no class of the world has
abbrev pub interfaces_by : World → Option ClassFacts → List (Option ℕ)
interfaces_by W None = []
interfaces_by W (Some c) = map (id_of W) c.interfaces

-- the same of the class x
unfoldable pub interfaces_of : World → Bytes → List (Option ℕ)
interfaces_of W x = interfaces_by W (find_class W x)
