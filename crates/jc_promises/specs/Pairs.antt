-- Two sides of which a promise is made: an old and a new release over one platform.
--     AreOfOneRun O N      two sides of one run
--     IsPair O N      the same, of valid classes and over a platform that has a root
use Rattle.std.specs.Prelude.{[], ◌≡◌}
use Rattle.std.specs.List.{All}
use Rattle.jc_facts.specs.world.World.{World, is_modular}
use Rattle.jc_facts.specs.file.Valid.{IsValidClass}
use Rattle.jc_facts.specs.world.Root.{HasRoot}

-- two sides, without clients, over one platform, and both of one kind: of a run with modules, or of one without
pub record AreOfOneRun (O N : World) : Type 0 where
  pub old_bare : O.clients ≡ []
  pub new_bare : N.clients ≡ []
  pub platform : O.platform ≡ N.platform
  pub kind : is_modular O.modules ≡ is_modular N.modules

-- their classes are valid, and clients may use the platform's java/lang/Object
pub record IsPair (O N : World) : Type 0 where
  pub run : AreOfOneRun O N
  pub root : HasRoot O.platform
  pub platform_valid : All IsValidClass O.platform
  pub old_valid : All IsValidClass O.release
  pub new_valid : All IsValidClass N.release
