-- What the sides of many clients are made of.
--     side_of_ground g      the side
--     IsGround g      its records are valid, and their names differ in each list
--     JudgeAlike W V      it doesn't matter to clients over which of the two sides they are judged
use Rattle.std.specs.Prelude.{◌≡◌, ℕ, ◌+◌, List, [], length, IsTrue}
use Rattle.std.specs.List.{All}
use Rattle.jc_facts.specs.declared.class_facts.ClassFacts.{ClassFacts}
use Rattle.jc_facts.specs.declared.client.ClientClass.{ClientClass}
use Rattle.jc_facts.specs.file.Valid.{IsValidClass}
use Rattle.jc_facts.specs.world.World.{World, side, modular_side, with_clients, differ_by_name}
use Rattle.jc_link.specs.Refusals.{first_refused}
use Rattle.jc_losses.specs.declared.grounds.Ground.{Ground}
use Rattle.jc_losses.specs.declared.grounds.Ground.TheVariants as grounds
use Rattle.jc_worlds.specs.Alike.{LinkAlike}

-- in a run without modules all classes are in one, whichever list they stand in
abbrev pub side_of_ground : Ground → World
side_of_ground (grounds.Together both) = side both []
side_of_ground (grounds.Apart platform release exports) = modular_side exports platform release

-- how many classes there are
abbrev pub size_of_ground : Ground → ℕ
size_of_ground (grounds.Together both) = length both
size_of_ground (grounds.Apart platform release exports) = length platform + length release

pub record IsOneList (both : List ClassFacts) : Type 0 where
  pub valid : All IsValidClass both
  pub differ : IsTrue (differ_by_name both)

pub record AreTwoLists (platform release : List ClassFacts) : Type 0 where
  pub valid_platform : All IsValidClass platform
  pub valid_release : All IsValidClass release
  pub platform_differs : IsTrue (differ_by_name platform)
  pub release_differs : IsTrue (differ_by_name release)

abbrev pub IsGround : Ground → Type 0
IsGround (grounds.Together both) = IsOneList both
IsGround (grounds.Apart platform release exports) = AreTwoLists platform release

-- clients are judged alike over the two sides
pub record JudgeAlike (W V : World) : Type 0 where
  pub refused : (cs : List ClientClass) → first_refused W cs ≡ first_refused V cs
  pub linked : (clients : List ClassFacts) → LinkAlike (with_clients W clients) (with_clients V clients)
