-- What a platform keeps.
use Rattle.std.specs.Prelude.{◌≡◌, ◌≤◌, None, length}
use Rattle.jc_loading.specs.PlatformLoads.{AreLoads, AreAllLoads}
use Rattle.jc_index.specs.Root.{fault_of_root}
use Rattle.jc_facts.specs.declared.limits.TheConstants.{MAX_SIDE_CLASSES}
use Rattle.jc_loading.specs.declared.platform.Platform.TheInside.{Inside}

-- the places are of classes that load without any release, of all of them where the platform may have a side
pub record IsPlatform (p : Inside) : Type 0 where
  pub loads : AreLoads p.list p.loads.items
  pub all : fault_of_root p.list ≡ None → length p.list ≤ MAX_SIDE_CLASSES → AreAllLoads p.list p.loads.items
