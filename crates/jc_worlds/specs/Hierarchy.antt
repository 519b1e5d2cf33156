-- Laws of the classes above a class, also of one that doesn't load.
use Rattle.std.specs.Prelude.{ℕ, ◌≤◌, ◌≡◌, [], Some, ◌||◌, List, ◌++◌}
use Rattle.std.specs.List.{list_any}
use Rattle.jc_facts.specs.declared.class_facts.ClassFacts.{ClassFacts}
use Rattle.jc_facts.specs.Names.{Bytes, same}
use Rattle.jc_facts.specs.Options.{some_and}
use Rattle.jc_facts.specs.world.World.{World, size, find_class}
use Rattle.jc_facts.specs.world.Search.{descend}
use Rattle.jc_facts.specs.world.Hierarchy.{chain_step, interfaces_step, names_in, in_chain, with_interfaces, chain, superinterfaces}

-- who stands in a chain, and who is led to by interfaces, is the same at each depth of at least as many levels as the world has classes
abbrev pub LevelsSuffice : Type 0
LevelsSuffice = (W : World) (n : ℕ) → size W ≤ n → (x y : Bytes)
    → (names_in (descend W [] [] chain_step n x) y ≡ in_chain W x y)
    × (names_in (descend W [] [] interfaces_step n x) y ≡ names_in (with_interfaces W x) y)

-- y stands in the chain of a class where it is the class or stands in the chain of its superclass, and the same of interfaces
abbrev pub AboveIsOneStep : Type 0
AboveIsOneStep = (W : World) (x y : Bytes) (c : ClassFacts) → find_class W x ≡ Some c
    → (in_chain W x y ≡ (same c.name y || some_and (λ s. in_chain W s y) c.superclass))
    × (names_in (with_interfaces W x) y ≡ (same c.name y || list_any (λ i. names_in (with_interfaces W i) y) c.interfaces))

-- the class, its superclasses and its superinterfaces
abbrev pub above : World → Bytes → List ClassFacts
above W x = chain W x ++ superinterfaces W x
