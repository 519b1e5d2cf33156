-- Keys that are collected in a set; `own` gives the member of a key that a class itself declares.
use Rattle.std.specs.Prelude.{ℕ, Bool, ◌≡◌, ◌||◌, Option, is_some}
use Rattle.std.specs.List.{list_any}
use Rattle.std.specs.BTreeSet as sorted
use Rattle.jc_facts.specs.declared.class_facts.ClassFacts.{ClassFacts}
use Rattle.jc_facts.specs.declared.class_facts.Member.{Member}
use Rattle.jc_facts.specs.declared.key.Key.{Key}
use Rattle.jc_facts.specs.Names.{Bytes}
use Rattle.jc_facts.specs.KeyOrder.{key_cmp}
use Rattle.jc_facts.specs.Options.{some_and}
use Rattle.jc_facts.specs.world.World.{World, find_class}
use Rattle.jc_worlds.specs.Hierarchy.{above}
use Rattle.jc_index.specs.Ids.{name_at}

-- the set has the keys that it had and those that pass the test
abbrev pub Collects : (Key → Bool) → sorted.BTreeSet Key → sorted.BTreeSet Key → Type 0
Collects test before now = (k : Key) → sorted.contains key_cmp now k ≡ (sorted.contains key_cmp before k || test k)

-- the class of this number declares one of the key
abbrev pub declares_at : (ClassFacts → Key → Option Member) → World → Key → ℕ → Bool
declares_at own W k n = some_and (λ c. is_some (own c k)) (find_class W (name_at W n))

-- the set has the keys that x and what stands above it declare, and no other
abbrev pub HasKeys : (ClassFacts → Key → Option Member) → World → Bytes → sorted.BTreeSet Key → Type 0
HasKeys own W x keys = (k : Key) → sorted.contains key_cmp keys k ≡ list_any (λ c. is_some (own c k)) (above W x)
