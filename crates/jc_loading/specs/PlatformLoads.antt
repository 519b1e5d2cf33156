-- The classes of a platform that load without any release (JVMS 5.3.5).
use Rattle.std.specs.Prelude.{ℕ, ◌<◌, ◌≡◌, List, [], length, map, take, Some, None, slice_index_or}
use Rattle.std.specs.List.{All, AllByRecursion, Contains}
use Rattle.jc_facts.specs.declared.class_facts.ClassFacts.{ClassFacts}
use Rattle.jc_facts.specs.Names.{Bytes}
use Rattle.jc_facts.specs.world.World.{World, side, find_class}
use Rattle.jc_facts.specs.world.Search.{supers}
use Rattle.jc_facts.specs.world.Loading.{load_fault}
use Rattle.jc_index.specs.Ids.{name_in}

-- ---- the order, by names

-- the class x loads, and all that it names above itself are among these
pub record LoadsAfter (W : World) (before : List Bytes) (x : Bytes) : Type 0 where
  pub loads : load_fault W x ≡ None
  pub above : (c : ClassFacts) → find_class W x ≡ Some c → AllByRecursion (λ s. Contains before s) (supers c)

-- the names stand in an order in which each class comes after those that it names above itself
abbrev pub LoadInOrder : World → List Bytes → Type 0
LoadInOrder W xs = (i : ℕ) (d : Bytes) → i < length xs → LoadsAfter W (take i xs) (slice_index_or xs i d)

-- ---- of a platform alone

-- places of classes of the platform that load without any release, each after those that it names above itself
pub record AreLoads (platform : List ClassFacts) (places : List ℕ) : Type 0 where
  pub within : All (λ at. at < length platform) places
  pub order : LoadInOrder (side platform []) (map (name_in platform) places)

-- each class of the platform that loads without any release is at one of these places
abbrev pub AreAllLoads : List ClassFacts → List ℕ → Type 0
AreAllLoads platform places = (x : Bytes) → load_fault (side platform []) x ≡ None → Contains (map (name_in platform) places) x

-- a class that loads in a platform alone loads in each world over the platform, which may lie in several modules
abbrev pub PlatformLoadsStay : Type 0
PlatformLoadsStay = (W : World) (x : Bytes) → load_fault (side W.platform []) x ≡ None → load_fault W x ≡ None
