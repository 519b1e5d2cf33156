-- What stands of the order in which classes load, while their load faults are looked for.
use Rattle.std.specs.Prelude.{ℕ, ◌<◌, ◌≡◌, List, take, Some, None}
use Rattle.std.specs.List.{AllByRecursion, Contains}
use Rattle.jc_facts.specs.declared.class_facts.ClassFacts.{ClassFacts}
use Rattle.jc_facts.specs.Names.{Bytes}
use Rattle.jc_facts.specs.world.World.{World, find_class, size}
use Rattle.jc_facts.specs.world.Search.{supers}
use Rattle.jc_facts.specs.world.Loading.{load_fault}
use Rattle.jc_index.specs.Ids.{name_at, id_of}
use Rattle.jc_index.specs.LoadOrder.{AreInLoadOrder}
use Rattle.jc_loading.specs.steps.Entering.{state_of}
use Rattle.jc_loading.specs.declared.faults.State.{State}
use Rattle.jc_loading.specs.declared.faults.State.TheVariants as states
use Rattle.jc_loading.specs.declared.faults.Frame.{Frame}
use Rattle.jc_loading.specs.declared.faults.Named.{Named}
use Rattle.jc_loading.specs.declared.faults.Named.TheVariants as named
use Rattle.jc_loading.specs.declared.faults.Turn.{Turn}
use Rattle.jc_loading.specs.declared.faults.Turn.TheVariants as turns
use Rattle.jc_loading.specs.declared.faults.Way.{Way}
use Rattle.jc_loading.specs.declared.faults.Way.TheVariants as ways

-- the name is of a class that is known to load
abbrev pub IsPassed : World → List State → Bytes → Type 0
IsPassed W ss s = (m : ℕ) × (id_of W s ≡ Some m) × (state_of ss m ≡ states.Known None)

-- the same, where what is known of the class of this name is that it loads
abbrev pub Passes : World → List State → Bytes → Named → Type 0
Passes W ss x (named.Known fault) = fault ≡ None → IsPassed W ss x
Passes W ss x (named.Unknown id) = Unit {0}

-- of the names that the class x has above itself the first so many are of classes that are known to load
abbrev pub ArePassed : World → List State → Bytes → ℕ → Type 0
ArePassed W ss x above = (c : ClassFacts) → find_class W x ≡ Some c → AllByRecursion (IsPassed W ss) (take above (supers c))

-- all of them are
abbrev pub AllPassed : World → List State → Bytes → Type 0
AllPassed W ss x = (c : ClassFacts) → find_class W x ≡ Some c → AllByRecursion (IsPassed W ss) (supers c)

-- those that the way went past from the class x
abbrev pub GoesPast : World → List State → Bytes → Way → Type 0
GoesPast W ss x ways.Done = AllPassed W ss x
GoesPast W ss x (ways.Fault e) = Unit {0}
GoesPast W ss x (ways.Up above id) = ArePassed W ss x above

-- the same of each class of the path, and of the one at the top
pub record ArePassedOnWay (W : World) (ss : List State) (path : List Frame) (top : Frame) : Type 0 where
  pub at_top : ArePassed W ss (name_at W top.class) top.above
  pub on_path : AllByRecursion (λ f. ArePassed W ss (name_at W f.class) f.above) path

-- ---- the order

-- each class of the order comes after those that it names above itself, and all that are known to load stand in it
pub record Orders (W : World) (ss : List State) (order : List ℕ) : Type 0 where
  pub each : AreInLoadOrder W order
  pub known : (n : ℕ) → n < size W → state_of ss n ≡ states.Known None → Contains order n

-- what stood in the order stands in it
abbrev pub Grows : List ℕ → List ℕ → Type 0
Grows before after = (n : ℕ) → Contains before n → Contains after n

-- what stands of the order after a turn, where this number was at the bottom: it stands in the order where it loads
abbrev pub Orderly : World → ℕ → List State → List Frame → List ℕ → Turn → Type 0
Orderly W at ss path order (turns.Over fault) = Orders W ss order × (fault ≡ None → Contains order at)
Orderly W at ss path order (turns.On top) = Orders W ss order × ArePassedOnWay W ss path top

-- the first so many classes stand in the order where they load
abbrev pub StandBefore : World → ℕ → List ℕ → Type 0
StandBefore W n order = (k : ℕ) → k < n → load_fault W (name_at W k) ≡ None → Contains order k
