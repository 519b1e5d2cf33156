-- A platform with an old and with a new release, as two worlds.
use Rattle.jc_promises.specs.Pairs.{AreOfOneRun}
use Rattle.jc_facts.specs.world.World.{World}
use Rattle.jc_index.specs.Sides.{IsSide}

-- the two worlds
pub record SidesOf : Type 0 where
  pub old : World
  pub new : World

-- both are sides, of one run: without clients, over one platform, and both with modules or both without
pub record AreSides (s : SidesOf) : Type 0 where
  pub old_side : IsSide s.old
  pub new_side : IsSide s.new
  pub run : AreOfOneRun s.old s.new
