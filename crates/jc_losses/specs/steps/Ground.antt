-- Clients over a platform and a release, on the way.
use Rattle.std.specs.Prelude.{◌≡◌, false, List, ◌++◌, is_some, IsTrue}
use Rattle.std.specs.List.{All}
use Rattle.jc_facts.specs.declared.class_facts.ClassFacts.{ClassFacts}
use Rattle.jc_facts.specs.world.World.{World, side, modular_side, with_clients, class_named, differ_by_name}
use Rattle.jc_losses.specs.declared.grounds.Ground.{Ground}
use Rattle.jc_losses.specs.declared.grounds.Ground.TheVariants as grounds

-- the world of all classes: where all are in one module the clients stand as a release
abbrev pub with_records : Ground → List ClassFacts → World
with_records (grounds.Together both) records = side both records
with_records (grounds.Apart platform release exports) records = with_clients (modular_side exports platform release) records

-- the records have names that neither the platform nor the release has
pub record AreBeside (platform release records : List ClassFacts) : Type 0 where
  pub differ : IsTrue (differ_by_name (release ++ records))
  pub apart : All (λ c. is_some (class_named platform c.name) ≡ false) records

-- the same where that is asked of them
abbrev pub StandBeside : Ground → List ClassFacts → Type 0
StandBeside (grounds.Together both) records = Unit {0}
StandBeside (grounds.Apart platform release exports) records = AreBeside platform release records
