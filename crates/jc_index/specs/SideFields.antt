-- What a side keeps.
use Rattle.std.specs.Prelude.{◌≤◌, ◌+◌, length, take, drop}
use Rattle.jc_facts.specs.world.World.{World}
use Rattle.jc_index.specs.SideModules.{modules_of}
use Rattle.jc_facts.specs.declared.limits.TheConstants.{MAX_SIDE_CLASSES}
use Rattle.jc_index.specs.declared.side.Side.TheInside.{Inside}

-- of the classes beside the platform the first ones are the release's, and the others are clients
abbrev pub world_of : Inside → World
world_of s = record { platform = s.platform; release = take s.of_release s.beside; clients = drop s.of_release s.beside; modules = modules_of s.modules }

-- there are few classes, and no more of the release than there are beside the platform
pub record AreFew (s : Inside) : Type 0 where
  pub few : length s.platform + length s.beside ≤ MAX_SIDE_CLASSES
  pub own : s.of_release ≤ length s.beside
