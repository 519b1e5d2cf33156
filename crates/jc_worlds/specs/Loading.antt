-- Laws of loading.
use Rattle.std.specs.Prelude.{ℕ, ◌≤◌, ◌≡◌, true, Some, None, All}
use Rattle.jc_facts.specs.declared.class_facts.ClassFacts.{ClassFacts}
use Rattle.jc_facts.specs.Names.{Bytes}
use Rattle.jc_facts.specs.Flags.{interface_flag}
use Rattle.jc_facts.specs.world.World.{World, size, find_class}
use Rattle.jc_facts.specs.world.Search.{supers}
use Rattle.jc_facts.specs.world.Hierarchy.{chain, superinterfaces}
use Rattle.jc_facts.specs.world.Loading.{fault_at, load_fault, fault_of_itself}

-- the load fault is the same to each depth of at least as many levels as the world has classes
abbrev pub FaultIsOne : Type 0
FaultIsOne = (W : World) (n : ℕ) (x : Bytes) → size W ≤ n → fault_at W n x ≡ load_fault W x

-- a class loads exactly where all that it names above itself loads and nothing refuses the class itself
abbrev pub LoadsWithSupers : Type 0
LoadsWithSupers = (W : World) (x : Bytes) (c : ClassFacts) → find_class W x ≡ Some c
    → (load_fault W x ≡ None → All (λ s. load_fault W s ≡ None) (supers c) × (fault_of_itself W c ≡ None))
    × (All (λ s. load_fault W s ≡ None) (supers c) → fault_of_itself W c ≡ None → load_fault W x ≡ None)

-- all classes of the chain of a class that loads load, and all its superinterfaces are interfaces that load
abbrev pub AllAboveLoads : Type 0
AllAboveLoads = (W : World) (x : Bytes) → load_fault W x ≡ None
    → All (λ c. load_fault W c.name ≡ None) (chain W x)
    × All (λ c. (interface_flag c.flags ≡ true) × (load_fault W c.name ≡ None)) (superinterfaces W x)
