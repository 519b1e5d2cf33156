-- Releases over one platform: what their trees are read as, their sides, and the first reason why they don't go with it.
use Rattle.std.specs.Prelude.{ℕ, ◌+◌, List, [], ◌∷◌, map, Option, None, option_map}
use Rattle.jc_facts.specs.declared.class_facts.ClassFacts.{ClassFacts}
use Rattle.jc_facts.specs.Options.{or_else}
use Rattle.jc_facts.specs.world.World.{World, Modules, OneModule, Several, side_in}
use Rattle.jc_index.specs.Root.{fault_of_root}
use Rattle.jc_index.specs.Sides.{overlap_of}
use Rattle.jc_trees.specs.declared.tree.TreeName.{TreeName}
use Rattle.jc_trees.specs.declared.tree.TreeName.TheVariants as names
use Rattle.jc_trees.specs.declared.tree_read.TreeRead.{TreeRead}
use Rattle.jc_trees.specs.declared.tree_read.TreeRead.TheVariants as reads
use Rattle.jc_releases.specs.declared.releases.Release.{Release}
use Rattle.jc_releases.specs.declared.releases.ReleaseModules.{ReleaseModules}
use Rattle.jc_releases.specs.declared.releases.ReleaseModules.TheVariants as modules
use Rattle.jc_releases.specs.declared.stop.Stop.{Stop}
use Rattle.jc_releases.specs.declared.stop.Stop.TheVariants as stops

-- what the tree of a release in these modules is read as: its records, and with modules the packages that it exports too
abbrev pub read_as : Modules → List ClassFacts → TreeRead
read_as OneModule records = reads.Library records
read_as (Several exports) records = reads.Modular (record { records = records; exports = exports })

-- the modules of a release
abbrev pub modules_in : ReleaseModules → Modules
modules_in modules.One = OneModule
modules_in (modules.Several exports) = Several exports

-- what the tree of the release is read as
abbrev pub read_of : Release → TreeRead
read_of r = read_as (modules_in r.modules) r.records

-- the platform with the release
abbrev pub side_of : List ClassFacts → Release → World
side_of platform r = side_in (modules_in r.modules) platform r.records

-- a release without modules, whose tree is called this
abbrev pub release_at : TreeName → List ClassFacts → Release
release_at name records = record { name = name; records = records; modules = modules.One }

-- the two releases of a check
abbrev pub old_and_new : List ClassFacts → List ClassFacts → List Release
old_and_new old new = release_at names.Old old ∷ release_at names.New new ∷ []

-- those of a row, whose numbers go on from this one
abbrev pub numbered : ℕ → List (List ClassFacts) → List Release
numbered n [] = []
numbered n (r ∷ rs) = release_at (names.NthRelease n) r ∷ numbered (n + 1) rs

-- the platform with each of them
abbrev pub sides_of : List ClassFacts → List Release → List World
sides_of platform releases = map (side_of platform) releases

-- the first of them that declares a name which the platform declares
abbrev pub first_overlap : List ClassFacts → List Release → Option Stop
first_overlap platform [] = None
first_overlap platform (r ∷ rs) = or_else (option_map (stops.Overlap r.name) (overlap_of platform r.records)) (first_overlap platform rs)

-- the first reason why they don't go with the platform: its java/lang/Object isn't as it has to be, or a release declares a name that it declares
abbrev pub mismatch_among : List ClassFacts → List Release → Option Stop
mismatch_among platform releases = or_else (option_map stops.BadRoot (fault_of_root platform)) (first_overlap platform releases)
