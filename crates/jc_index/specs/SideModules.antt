-- The modules of a side and the module of a class, as contracts see them.
use Rattle.std.specs.Prelude.{Some, None}
use Rattle.jc_facts.specs.world.Modules.{Module, OfPlatform, OfRelease, OfClients}
use Rattle.jc_facts.specs.world.World.{Modules, OneModule, Several}
use Rattle.jc_index.specs.declared.modules.Module.{Module as ModuleOf}
use Rattle.jc_index.specs.declared.modules.Module.TheVariants as one
use Rattle.jc_index.specs.declared.modules.SideModules.{SideModules}
use Rattle.jc_index.specs.declared.modules.SideModules.TheVariants as kinds

-- with two the release has no list of packages that it exports, and is in the module of the clients
abbrev pub modules_of : SideModules → Modules
modules_of kinds.One = OneModule
modules_of kinds.Two = Several None
modules_of (kinds.Three exports) = Several (Some exports)

abbrev pub module_view : ModuleOf → Module
module_view one.OfPlatform = OfPlatform
module_view one.OfRelease = OfRelease
module_view one.OfClients = OfClients
