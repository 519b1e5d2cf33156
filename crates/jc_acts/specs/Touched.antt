-- Classes that changed between the two sides, or left the chain of a seat.
use Rattle.std.specs.Prelude.{◌≡◌, ◌<◌, ◌||◌, ◌&&◌, ℕ, Bool, false, not, List, length, is_some, slice_index_or}
use Rattle.std.specs.List.{list_any}
use Rattle.std.specs.Option.{option_eq}
use Rattle.jc_facts.specs.Names.{Bytes}
use Rattle.jc_facts.specs.world.World.{World, find_class, size}
use Rattle.jc_facts.specs.world.Hierarchy.{in_chain}
use Rattle.jc_facts.specs.world.Loading.{load_fault}
use Rattle.jc_worlds.specs.Hierarchy.{above}
use Rattle.jc_index.specs.Ids.{name_at}
use Rattle.jc_sides.specs.SidesOf.{SidesOf}
use Rattle.jc_facts.specs.Records.{same_facts}

-- the two sides don't have the same class of this name
abbrev pub is_changed : SidesOf → Bytes → Bool
is_changed s y = not (option_eq same_facts (find_class s.old y) (find_class s.new y))

-- the class y stood in the chain of the class a, and doesn't any more
abbrev pub left_chain_of : SidesOf → Bytes → Bytes → Bool
left_chain_of s y a = in_chain s.old a y && not (in_chain s.new a y)

-- the class changed, or left the chain of one of these
abbrev pub is_touched : SidesOf → List Bytes → Bytes → Bool
is_touched s seats y = is_changed s y || list_any (left_chain_of s y) seats

-- the class x doesn't load, or its name or that of a class above it passes the test
abbrev pub passes_above : World → (Bytes → Bool) → Bytes → Bool
passes_above W p x = is_some (load_fault W x) || list_any (λ c. p c.name) (above W x)

-- the flag of the class of number n
abbrev pub flag_at : List Bool → ℕ → Bool
flag_at flags n = slice_index_or flags n false

-- there is a flag for each class, which tells whether its name passes the test
pub record AreFlags (W : World) (p : Bytes → Bool) (flags : List Bool) : Type 0 where
  pub count : length flags ≡ size W
  pub each : (n : ℕ) → n < size W → flag_at flags n ≡ p (name_at W n)

-- the flags after are as before, and set for the classes that pass the test too
pub record AreSet (W : World) (p : Bytes → Bool) (before after : List Bool) : Type 0 where
  pub count : length after ≡ size W
  pub each : (n : ℕ) → n < size W → flag_at after n ≡ (flag_at before n || p (name_at W n))
