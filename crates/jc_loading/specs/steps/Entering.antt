-- What stands while the load faults of all classes are looked for: one class after the other is entered from below.
use Rattle.std.specs.Prelude.{ℕ, ◌+◌, ◌*◌, ◌<◌, ◌≡◌, ◌||◌, ◌==◌, Bool, true, false, cond, List, [], ◌∷◌, length, take, count_by, None, Some, slice_get, slice_index_or}
use Rattle.std.specs.List.{list_any}
use Rattle.jc_facts.specs.declared.class_facts.ClassFacts.{ClassFacts}
use Rattle.jc_facts.specs.declared.link_error.LinkError.{LinkError}
use Rattle.jc_facts.specs.Names.{Bytes}
use Rattle.jc_facts.specs.Options.{and_then, first_some}
use Rattle.jc_facts.specs.world.World.{World, find_class, size}
use Rattle.jc_facts.specs.world.Search.{supers}
use Rattle.jc_facts.specs.world.Loading.{load_fault, fault_of_itself}
use Rattle.jc_index.specs.Ids.{name_at}
use Rattle.jc_loading.specs.declared.faults.State.{State}
use Rattle.jc_loading.specs.declared.faults.State.TheVariants as states
use Rattle.jc_loading.specs.declared.faults.Frame.{Frame}
use Rattle.jc_loading.specs.declared.faults.Named.{Named}
use Rattle.jc_loading.specs.declared.faults.Named.TheVariants as named
use Rattle.jc_loading.specs.declared.faults.Turn.{Turn}
use Rattle.jc_loading.specs.declared.faults.Turn.TheVariants as turns
use Rattle.jc_loading.specs.declared.faults.Way.{Way}
use Rattle.jc_loading.specs.declared.faults.Way.TheVariants as ways

-- what is known of the class of number n
abbrev pub state_of : List State → ℕ → State
state_of ss n = slice_index_or ss n states.Fresh

-- it is entered
abbrev pub is_entered : State → Bool
is_entered states.Entered = true
is_entered _ = false

-- its load fault is known
abbrev pub is_known : State → Bool
is_known (states.Known fault) = true
is_known _ = false

-- it wasn't entered yet
abbrev pub is_fresh : State → Bool
is_fresh states.Fresh = true
is_fresh _ = false

-- what is known of the class named x is right
abbrev pub IsRight : World → Bytes → State → Type 0
IsRight W x (states.Known fault) = load_fault W x ≡ fault
IsRight W x _ = Unit {0}

-- there is a state for each class, and each is right
pub record AreRight (W : World) (ss : List State) : Type 0 where
  pub count : length ss ≡ size W
  pub right : (n : ℕ) → IsRight W (name_at W n) (state_of ss n)

-- the same, and no class is entered
pub record IsSettled (W : World) (ss : List State) : Type 0 where
  pub right : AreRight W ss
  pub closed : (n : ℕ) → is_entered (state_of ss n) ≡ false

-- what is known of the class named x, where the states are these
abbrev pub Says : World → List State → Bytes → Named → Type 0
Says W ss x (named.Known fault) = load_fault W x ≡ fault
Says W ss x (named.Unknown id) = (id < size W) × (x ≡ name_at W id) × (is_known (state_of ss id) ≡ false)

-- of the classes that x names above itself the first so many load
abbrev pub LoadsBefore : World → Bytes → ℕ → Type 0
LoadsBefore W x above = (c : ClassFacts) → find_class W x ≡ Some c → first_some (load_fault W) (take above (supers c)) ≡ None

-- the same, and the next one is s
pub record Leads (W : World) (x : Bytes) (above : ℕ) (s : Bytes) : Type 0 where
  pub class : ClassFacts
  pub found : find_class W x ≡ Some class
  pub before : first_some (load_fault W) (take above (supers class)) ≡ None
  pub next : slice_get (supers class) above ≡ Some s

-- where the way leads from the class named x, where the states are these
abbrev pub Goes : World → List State → Bytes → Way → Type 0
Goes W ss x ways.Done = load_fault W x ≡ and_then (fault_of_itself W) (find_class W x)
Goes W ss x (ways.Fault e) = load_fault W x ≡ Some e
Goes W ss x (ways.Up above id) = (id < size W) × Leads W x above (name_at W id) × (is_known (state_of ss id) ≡ false)

-- ---- the path: the classes that are entered, from below

-- the class of number n is on the path
abbrev pub is_on : ℕ → List Frame → Bool
is_on n fs = list_any (λ f. f.class == n) fs

-- the number of the class at the bottom, where `top` is above the path
abbrev pub bottom : List Frame → ℕ → ℕ
bottom [] top = top
bottom (f ∷ fs) top = f.class

-- from each class of the path the way leads to the next, and from the last to the one at the top
abbrev pub LeadsAlong : World → List Frame → ℕ → Type 0
LeadsAlong W [] top = Unit {0}
LeadsAlong W (f ∷ fs) top = (f.class < size W) × Leads W (name_at W f.class) f.above (name_at W (bottom fs top)) × LeadsAlong W fs top

-- what stands while classes are entered: all that are stand on the path or at the top
pub record IsUnderWay (W : World) (ss : List State) (path : List Frame) (top : Frame) : Type 0 where
  pub right : AreRight W ss
  pub inside : top.class < size W
  pub leads : LeadsAlong W path top.class
  pub before : LoadsBefore W (name_at W top.class) top.above
  pub entered : (n : ℕ) → is_entered (state_of ss n) ≡ true → (is_on n path || top.class == n) ≡ true

-- what is left to do at most
abbrev pub work : List State → List Frame → ℕ
work ss path = 2 * count_by is_fresh ss + length path

-- the states after a fault that all classes of the path and the one at the top have
abbrev pub AllHave : LinkError → List State → List Frame → ℕ → List State → Type 0
AllHave e ss path top after = (length after ≡ length ss) × ((n : ℕ) → state_of after n ≡ cond (is_on n path || top == n) (states.Known (Some e)) (state_of ss n))

-- the class of number n is one of these
abbrev pub is_number_among : ℕ → List ℕ → Bool
is_number_among n ids = list_any (λ m. m == n) ids

-- the states after it is known that these classes load
abbrev pub AllLoad : List State → List ℕ → List State → Type 0
AllLoad ss ids after = (length after ≡ length ss) × ((n : ℕ) → state_of after n ≡ cond (is_number_among n ids) (states.Known None) (state_of ss n))

-- what a turn leads to, where this number was at the bottom and so much was left: the fault of that class, or less to do
abbrev pub Turns : World → ℕ → ℕ → List State → List Frame → Turn → Type 0
Turns W at before ss path (turns.Over fault) = IsSettled W ss × (load_fault W (name_at W at) ≡ fault)
Turns W at before ss path (turns.On top) = IsUnderWay W ss path top × (bottom path top.class ≡ at) × (work ss path < before)
