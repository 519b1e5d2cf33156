-- The module of a class, and which classes other modules may name (JVMS 5.3.6, 5.4.4).
-- Each module reads each other, and only the release's has packages that it doesn't export: so this project has it; the standard says more of both.
--     module_of W x      the module of the class of this name
--     is_visible W x      every module may name the class, where it is public
--     is_visible_from W x y      the module of the class x may name the class y, where that is public
use Rattle.std.specs.Prelude.{Bool, true, false, None, Some, is_some, ◌||◌}
use Rattle.jc_facts.specs.Names.{Bytes, is_name_among, package_name}
use Rattle.jc_facts.specs.world.World.{World, Modules, OneModule, Several, class_named}

-- that of the platform, that of the release, and that of the clients, which is the unnamed one (JVMS 5.3.6)
pub data Module : Type 0 where
  OfPlatform OfRelease OfClients : Module

-- the module of a class by whether the platform has it and whether the release has it
abbrev pub module_by : Modules → Bool → Bool → Module
module_by OneModule p r = OfClients
module_by (Several exports) true r = OfPlatform
module_by (Several (Some exports)) false true = OfRelease
module_by (Several (Some exports)) false false = OfClients
module_by (Several None) false r = OfClients

-- the module of the class of this name: it is found by which of the world's lists has the class
abbrev pub module_of : World → Bytes → Module
module_of W x = module_by W.modules (is_some (class_named W.platform x)) (is_some (class_named W.release x))

-- the two are one module
abbrev pub same_module : Module → Module → Bool
same_module OfPlatform OfPlatform = true
same_module OfRelease OfRelease = true
same_module OfClients OfClients = true
same_module _ _ = false

-- the two classes are in one module
abbrev pub in_same_module : World → Bytes → Bytes → Bool
in_same_module W x y = same_module (module_of W x) (module_of W y)

-- the package is one that the release's module exports (JVMS 4.7.25)
abbrev pub is_exported : Modules → Bytes → Bool
is_exported (Several (Some exports)) p = is_name_among exports p
is_exported (Several None) p = false
is_exported OneModule p = false

-- whether a class of the module is visible, by whether the release's module exports its package
abbrev pub visible_by : Module → Bool → Bool
visible_by OfRelease exported = exported
visible_by OfPlatform exported = true
visible_by OfClients exported = true

-- every module may name the class, where it is public: it is of the platform's or of the clients' module, or the release's exports its package
abbrev pub is_visible : World → Bytes → Bool
is_visible W x = visible_by (module_of W x) (is_exported W.modules (package_name x))

-- the module of the class x may name the class y, where that is public: they are of one module, or y is visible (JVMS 5.4.4)
abbrev pub is_visible_from : World → Bytes → Bytes → Bool
is_visible_from W x y = in_same_module W x y || is_visible W y
