-- What is known of classes, while each is asked whether it doesn't load, or it or one above it passes a test.
use Rattle.std.specs.Prelude.{◌≡◌, ◌<◌, ◌||◌, ℕ, Bool, true, false, List, Option, None, Some, is_some, slice_index_or}
use Rattle.std.specs.Bool.{then_some}
use Rattle.std.specs.List.{list_any}
use Rattle.jc_facts.specs.Names.{Bytes}
use Rattle.jc_facts.specs.Options.{some_and}
use Rattle.jc_facts.specs.world.World.{World, find_class, size}
use Rattle.jc_facts.specs.world.Hierarchy.{each, with_interfaces}
use Rattle.jc_facts.specs.world.Loading.{load_fault}
use Rattle.jc_index.specs.Ids.{name_at}
use Rattle.jc_acts.specs.Touched.{passes_above}

-- the name of the class x passes the test, or that of an interface that it names or that leads to
abbrev pub passes_at : World → (Bytes → Bool) → Bytes → Bool
passes_at W p x = some_and (λ c. p c.name || list_any (λ d. p d.name) (each (with_interfaces W) c.interfaces)) (find_class W x)

-- the class x doesn't load, or passes so
abbrev pub fails_or_passes : World → (Bytes → Bool) → Bytes → Bool
fails_or_passes W p x = is_some (load_fault W x) || passes_at W p x

-- what is known of the class x by itself: that it is so, or nothing
abbrev pub known_first : World → (Bytes → Bool) → Bytes → Option Bool
known_first W p x = then_some (fails_or_passes W p x) true

-- what is known of the class x is true; where nothing is, it loads and doesn't pass by itself
abbrev pub IsKnown : World → (Bytes → Bool) → Bytes → Option Bool → Type 0
IsKnown W p x None = fails_or_passes W p x ≡ false
IsKnown W p x (Some b) = b ≡ passes_above W p x

-- what is known of the class of number n
abbrev pub known_at : List (Option Bool) → ℕ → Option Bool
known_at known n = slice_index_or known n None

-- what is known of each class is true
abbrev pub AreKnown : World → (Bytes → Bool) → List (Option Bool) → Type 0
AreKnown W p known = (n : ℕ) → n < size W → IsKnown W p (name_at W n) (known_at known n)
