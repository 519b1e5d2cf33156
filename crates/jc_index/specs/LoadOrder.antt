-- The classes that load, each after those that it names above itself (JVMS 5.3.5).
use Rattle.std.specs.Prelude.{ℕ, ◌<◌, ◌≡◌, List, length, take, Some, None, slice_index_or}
use Rattle.std.specs.List.{AllByRecursion, Contains}
use Rattle.jc_facts.specs.declared.class_facts.ClassFacts.{ClassFacts}
use Rattle.jc_facts.specs.world.World.{World, find_class, size}
use Rattle.jc_facts.specs.world.Search.{supers}
use Rattle.jc_facts.specs.world.Loading.{load_fault}
use Rattle.jc_index.specs.Ids.{name_at, id_of}

-- the class of number n loads, and the numbers of all that it names above itself are among these
pub record IsNext (W : World) (before : List ℕ) (n : ℕ) : Type 0 where
  pub within : n < size W
  pub loads : load_fault W (name_at W n) ≡ None
  pub above : (c : ClassFacts) → find_class W (name_at W n) ≡ Some c → AllByRecursion (λ s. (m : ℕ) × (id_of W s ≡ Some m) × Contains before m) (supers c)

-- the numbers stand in an order in which each class comes after those that it names above itself
abbrev pub AreInLoadOrder : World → List ℕ → Type 0
AreInLoadOrder W order = (i d : ℕ) → i < length order → IsNext W (take i order) (slice_index_or order i d)

-- the numbers of the classes that load, each after those that it names above itself
pub record IsLoadOrder (W : World) (order : List ℕ) : Type 0 where
  pub each : AreInLoadOrder W order
  pub all : (n : ℕ) → n < size W → load_fault W (name_at W n) ≡ None → Contains order n
