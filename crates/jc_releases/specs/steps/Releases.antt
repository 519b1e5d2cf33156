-- What is found of releases over a platform, on the way.
use Rattle.std.specs.Prelude.{◌≡◌, ◌⊎◌, List, Some}
use Rattle.jc_facts.specs.declared.class_facts.ClassFacts.{ClassFacts}
use Rattle.jc_facts.specs.world.World.{is_modular}
use Rattle.jc_table.specs.Tables.{HasCause as HasTableCause}
use Rattle.jc_table.specs.declared.table.TableError.{TableError}
use Rattle.jc_table.specs.declared.table.TableError.TheVariants as errors
use Rattle.jc_trees.specs.ClassLists.{IsRecordList}
use Rattle.jc_trees.specs.declared.tree.TreeName.{TreeName}
use Rattle.jc_trees.specs.declared.tree.TreeName.TheVariants as names
use Rattle.jc_releases.specs.Releases.{modules_in, mismatch_among}
use Rattle.jc_releases.specs.declared.releases.Release.{Release}
use Rattle.jc_releases.specs.declared.stop.Stop.{Stop}
use Rattle.jc_releases.specs.declared.stop.Stop.TheVariants as stops

-- its records are as those of a tree
abbrev pub IsReleaseList : Release → Type 0
IsReleaseList release = IsRecordList release.records

-- the two releases of a check: their records are as those of trees, they are called so, and both are of a run with modules, or of one without
pub record AreOldAndNew (old new : Release) : Type 0 where
  pub old_list : IsReleaseList old
  pub new_list : IsReleaseList new
  pub old_name : old.name ≡ names.Old
  pub new_name : new.name ≡ names.New
  pub kind : is_modular (modules_in old.modules) ≡ is_modular (modules_in new.modules)

-- how a table that isn't built stops a command
abbrev pub unfit_by : TreeName → TableError → Stop
unfit_by name (errors.BadRoot part) = stops.BadRoot part
unfit_by name (errors.Overlap class) = stops.Overlap name class
unfit_by name errors.Memory = stops.Memory

-- why the release has no table with the platform
abbrev pub StopsRelease : List ClassFacts → Release → Stop → Type 0
StopsRelease platform release stop = ((error : TableError) × HasTableCause platform release.records error × (stop ≡ unfit_by release.name error)) ⊎ (stop ≡ stops.Memory)

-- why the releases have none
abbrev pub StopsOver : List ClassFacts → List Release → Stop → Type 0
StopsOver platform releases stop = (mismatch_among platform releases ≡ Some stop) ⊎ (stop ≡ stops.Memory)
