-- The interfaces that stand above each class, by numbers.
use Rattle.std.specs.Prelude.{ℕ, ◌<◌, ◌==◌, Bool, List, [], ◌≡◌, length, slice_index_or}
use Rattle.std.specs.List.{All, list_any}
use Rattle.jc_facts.specs.declared.class_facts.ClassFacts.{ClassFacts}
use Rattle.jc_facts.specs.Names.{Bytes}
use Rattle.jc_facts.specs.Options.{some_and}
use Rattle.jc_facts.specs.world.World.{World, find_class, size}
use Rattle.jc_facts.specs.world.Hierarchy.{names_in, with_interfaces}
use Rattle.jc_index.specs.Ids.{name_at}

-- y is an interface that the class names, or one that such an interface leads to
abbrev pub leads_to : World → ClassFacts → Bytes → Bool
leads_to W c y = list_any (λ i. names_in (with_interfaces W i) y) c.interfaces

-- the same of the class x, where there is one
abbrev pub leads_by : World → Bytes → Bytes → Bool
leads_by W x y = some_and (λ c. leads_to W c y) (find_class W x)

-- the numbers of the interfaces that the class x names, and of those that they lead to in turn
pub record AreAbove (W : World) (x : Bytes) (ids : List ℕ) : Type 0 where
  pub within : All (λ k. k < size W) ids
  pub exact : (k : ℕ) → k < size W → list_any (λ n. n == k) ids ≡ leads_by W x (name_at W k)

-- for each class, in order, those that stand above it
pub record AreRows (W : World) (rows : List (List ℕ)) : Type 0 where
  pub count : length rows ≡ size W
  pub above : (n : ℕ) → n < size W → AreAbove W (name_at W n) (slice_index_or rows n [])
