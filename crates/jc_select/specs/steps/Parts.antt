-- The parts of a base, by numbers of classes.
--     AreNamed W cs ids      the numbers of the classes of the list
--     stays_at, was_at      what the comparison of two parts asks
use Rattle.std.specs.Prelude.{ℕ, ◌<◌, ◌==◌, ◌≡◌, Bool, false, List, Option, None, Some, is_some, ◌&&◌}
use Rattle.std.specs.Bool.{beq}
use Rattle.std.specs.List.{All, list_any, list_all}
use Rattle.jc_facts.specs.declared.class_facts.ClassFacts.{ClassFacts}
use Rattle.jc_facts.specs.declared.key.Key.{Key}
use Rattle.jc_facts.specs.Flags.{abstract_flag}
use Rattle.jc_facts.specs.Options.{some_and}
use Rattle.jc_facts.specs.world.World.{World, size}
use Rattle.jc_facts.specs.world.Hierarchy.{names_in}
use Rattle.jc_index.specs.steps.Choosing.{own_at, candidate_at}
use Rattle.jc_index.specs.Ids.{name_at, id_of}
use Rattle.jc_sides.specs.SidesOf.{SidesOf}
use Rattle.jc_promises.specs.rule.Warnings.{is_below_other}

-- these are the numbers of the classes of the list, in any order
pub record AreNamed (W : World) (cs : List ClassFacts) (ids : List ℕ) : Type 0 where
  pub within : All (λ n. n < size W) ids
  pub exact : (n : ℕ) → n < size W → list_any (λ i. i == n) ids ≡ names_in cs (name_at W n)

-- the class of number n declares the key neither private nor static
abbrev pub offers_at : World → Key → ℕ → Bool
offers_at W k n = is_some (candidate_at W k n)

-- the class of number n declares the key abstract
abbrev pub abstract_at : World → Key → ℕ → Bool
abstract_at W k n = some_and (λ f. abstract_flag f.flags) (own_at W k n)

-- the old class of number i and the new one of number j are below the same others of these old classes
abbrev pub alike_below : SidesOf → List ℕ → ℕ → ℕ → Bool
alike_below s ids i j = list_all (λ o. beq (is_below_other s.old (name_at s.old i) (name_at s.old o)) (is_below_other s.new (name_at s.new j) (name_at s.old o))) ids

-- the old class of number i stays as that of this number, where there is one
abbrev pub stays_now : SidesOf → Key → List ℕ → List ℕ → ℕ → Option ℕ → Bool
stays_now s k before after i None = false
stays_now s k before after i (Some j) = list_any (λ n. n == j) after && beq (abstract_at s.old k i) (abstract_at s.new k j) && alike_below s before i j

-- the old class of number i stays in the part
abbrev pub stays_at : SidesOf → Key → List ℕ → List ℕ → ℕ → Bool
stays_at s k before after i = stays_now s k before after i (id_of s.new (name_at s.old i))

-- the old class of number i is one of the new ones of these numbers, where there is one, and below the same others as before
abbrev pub stands_now : SidesOf → List ℕ → List ℕ → ℕ → Option ℕ → Bool
stands_now s before after i None = false
stands_now s before after i (Some j) = list_any (λ n. n == j) after && alike_below s before i j

-- the same of the class of its name
abbrev pub stands_at : SidesOf → List ℕ → List ℕ → ℕ → Bool
stands_at s before after i = stands_now s before after i (id_of s.new (name_at s.old i))

-- the new class of number d was among the old ones
abbrev pub was_at : SidesOf → List ℕ → ℕ → Bool
was_at s before d = list_any (λ i. some_and (λ n. n == d) (id_of s.new (name_at s.old i))) before
