-- What a class names above itself, by numbers.
use Rattle.std.specs.Prelude.{ℕ, List, [], Option, None, Some, map}
use Rattle.std.specs.List.{filter_map}
use Rattle.jc_facts.specs.declared.class_facts.ClassFacts.{ClassFacts}
use Rattle.jc_facts.specs.world.World.{World, find_class}
use Rattle.jc_index.specs.Ids.{names, id_of}

-- the numbers of the interfaces that the class names, where the world has them
abbrev pub named_by : World → Option ClassFacts → List ℕ
named_by W None = []
named_by W (Some c) = filter_map (id_of W) c.interfaces

-- these for each class, in order
abbrev pub edges_of : World → List (List ℕ)
edges_of W = map (λ x. named_by W (find_class W x)) (names W)
