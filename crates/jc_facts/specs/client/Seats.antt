-- The seat of a client: where the library begins above it.
--     seat W x      the first class of the chain of x that is no client
use Rattle.std.specs.Prelude.{cond, List, [], ◌∷◌, Option, None, Some}
use Rattle.jc_facts.specs.declared.class_facts.ClassFacts.{ClassFacts}
use Rattle.jc_facts.specs.Names.{Bytes}
use Rattle.jc_facts.specs.world.World.{World, is_client}
use Rattle.jc_facts.specs.world.Hierarchy.{chain}

-- the first of the classes that is no client
unfoldable pub first_library : World → List ClassFacts → Option Bytes
first_library W [] = None
first_library W (c ∷ cs) = cond (is_client W c.name) (first_library W cs) (Some c.name)

-- the seat of a client: the first class of its chain that is no client
abbrev pub seat : World → Bytes → Option Bytes
seat W x = first_library W (chain W x)
