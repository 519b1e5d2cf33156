-- The classes above a class (JVMS 4.1, 5.3.5), also of one that does not load.
--     chain W x      the class, its superclass, and so on
--     superinterfaces W x      all interfaces that the classes of the chain name, and that those name in turn
use Rattle.std.specs.Prelude.{Bool, List, [], ◌∷◌, ◌++◌, Option, None, Some}
use Rattle.std.specs.List.{list_any}
use Rattle.jc_facts.specs.declared.class_facts.ClassFacts.{ClassFacts}
use Rattle.jc_facts.specs.Names.{Bytes, same}
use Rattle.jc_facts.specs.world.World.{World, size}
use Rattle.jc_facts.specs.world.Search.{descend}

-- what `f` gives of the superclass, where there is one
abbrev pub of_super : (Bytes → List ClassFacts) → Option Bytes → List ClassFacts
of_super f None = []
of_super f (Some s) = f s

-- the class, and then what `above` gives of its superclass
unfoldable pub chain_step : (Bytes → List ClassFacts) → ClassFacts → List ClassFacts
chain_step above c = c ∷ of_super above c.superclass

-- the class, its superclass, the superclass of that, as far as the names lead. A valid interface has java/lang/Object as its
-- superclass, so its chain is itself and that class. No chain without a cycle is longer than the world;
-- the classes of a cycle stand in it again until then
unfoldable pub chain : World → Bytes → List ClassFacts
chain W x = descend W [] [] chain_step (size W) x

-- one of these classes has this name
abbrev pub names_in : List ClassFacts → Bytes → Bool
names_in cs y = list_any (λ c. same c.name y) cs

-- y is x or a superclass of it
abbrev pub in_chain : World → Bytes → Bytes → Bool
in_chain W x y = names_in (chain W x) y

-- ---- superinterfaces

-- what `f` gives of each of the names, in a row
unfoldable pub each : (Bytes → List ClassFacts) → List Bytes → List ClassFacts
each f [] = []
each f (x ∷ xs) = f x ++ each f xs

-- the class, and then what `above` gives of each interface that it names
unfoldable pub interfaces_step : (Bytes → List ClassFacts) → ClassFacts → List ClassFacts
interfaces_step above c = c ∷ each above c.interfaces

-- the interface x, those that it names, and those that they name in turn
unfoldable pub with_interfaces : World → Bytes → List ClassFacts
with_interfaces W x = descend W [] [] interfaces_step (size W) x

-- all interfaces that these classes name, and that those name in turn
unfoldable pub interfaces_of : World → List ClassFacts → List ClassFacts
interfaces_of W [] = []
interfaces_of W (c ∷ cs) = each (with_interfaces W) c.interfaces ++ interfaces_of W cs

-- all interfaces that the classes of the chain name, and that those name in turn. A root class names none,
-- so those of an interface are the ones that it names itself, and theirs
unfoldable pub superinterfaces : World → Bytes → List ClassFacts
superinterfaces W x = interfaces_of W (chain W x)

-- y is a superinterface of x
abbrev pub is_superinterface : World → Bytes → Bytes → Bool
is_superinterface W x y = names_in (superinterfaces W x) y
