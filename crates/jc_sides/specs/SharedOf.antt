-- Classes that both sides have.
use Rattle.std.specs.Prelude.{◌<◌, ◌≡◌, ◌++◌, [], ℕ, true, false, Bool, List, Option, None, Some, map}
use Rattle.std.specs.List.{filter, cons_option, All}
use Rattle.jc_facts.specs.Names.{Bytes, is_name_among}
use Rattle.jc_facts.specs.world.World.{size}
use Rattle.jc_promises.specs.rule.Bases.{is_kept}
use Rattle.jc_index.specs.Ids.{name_at, names}
use Rattle.jc_sides.specs.SidesOf.{SidesOf, AreSides}

-- its name, and its numbers on the old side and on the new
pub record SharedOf : Type 0 where
  pub name : Bytes
  pub old : ℕ
  pub new : ℕ

-- the name of the class
abbrev pub name_of : SharedOf → Bytes
name_of b = b.name

-- the numbers are those of the class of this name
pub record IsShared (s : SidesOf) (b : SharedOf) : Type 0 where
  pub old_below : b.old < size s.old
  pub new_below : b.new < size s.new
  pub old_name : name_at s.old b.old ≡ name_of b
  pub new_name : name_at s.new b.new ≡ name_of b

-- the class x where the test holds, and none where it doesn't
abbrev pub IsWhere : Bool → SidesOf → Bytes → Option SharedOf → Type 0
IsWhere passes s x None = passes ≡ false
IsWhere passes s x (Some b) = (passes ≡ true) × (name_of b ≡ x) × IsShared s b

-- the list after has the classes before, and then the class x where the test holds
abbrev pub AddsWhere : Bool → SidesOf → Bytes → List SharedOf → List SharedOf → Type 0
AddsWhere passes s x before after = (o : Option SharedOf) × IsWhere passes s x o × (after ≡ before ++ cons_option o [])

-- all classes that pass the test, in byte order of their names
pub record AreThose (test : Bytes → Bool) (s : SidesOf) (bases : List SharedOf) : Type 0 where
  pub sides : AreSides s
  pub all : map name_of bases ≡ filter test (names s.old)
  pub shared : All (IsShared s) bases

-- only classes that are kept pass the test
abbrev pub OfKept : (SidesOf → Bytes → Bool) → Type 0
OfKept test = (s : SidesOf) (x : Bytes) → is_kept s.old s.new x ≡ false → test s x ≡ false

-- a class that both sides have has its name in the set exactly where it passes the test
abbrev pub HasThose : (Bytes → Bool) → SidesOf → List Bytes → Type 0
HasThose test s set = (b : SharedOf) → IsShared s b → is_name_among set (name_of b) ≡ test (name_of b)
