-- Class files of planned clients, with the spot of the one that fails.
--     files_of_plan p all      those of the plan's clients with these bodies, and the plan's spot
--     package_of s      the package of the clients that are planned over two sides
--     written_file r b      the class file b of r as it is written, with the spot where it is its own
use Rattle.std.specs.Prelude.{◌≡◌, cond, IsTrue, List, [], ◌∷◌, ◌++◌, map, Option, Some, None}
use Rattle.std.specs.List.{All}
use Rattle.jc_facts.specs.declared.blueprint.Blueprint.{Blueprint}
use Rattle.jc_facts.specs.declared.verdict.Cause.{Cause}
use Rattle.jc_facts.specs.declared.verdict.Spot.{Spot}
use Rattle.jc_facts.specs.ByName.{by_name}
use Rattle.jc_facts.specs.Exactly.{NamesRise}
use Rattle.jc_facts.specs.Names.{Bytes, same}
use Rattle.jc_promises.specs.plan.Planned.{Plan, plan}
use Rattle.jc_promises.specs.plan.PlannedBodies.{Bodies, blueprints, plan_bodies}
use Rattle.jc_promises.specs.plan.PlannedNames.{fresh_package}
use Rattle.jc_facts.specs.written.Written.{IsFormed, fits_whole, written}
use Rattle.jc_sides.specs.SidesOf.{SidesOf}
use Rattle.jc_witness.specs.declared.planned_files.PlannedFiles.{PlannedFiles}
use Rattle.jc_witness.specs.declared.witness.WitnessFile.{WitnessFile}

-- the package of the clients
abbrev pub package_of : SidesOf → Bytes
package_of s = fresh_package s.old s.new

abbrev pub files_of_plan : Plan → List Bodies → PlannedFiles
files_of_plan p all = record { files = blueprints p.clients all; name = p.name; spot = p.spot }

-- these and one more, which has the spot
abbrev pub ending_with : List Blueprint → Blueprint → Spot → PlannedFiles
ending_with before last spot = record { files = before ++ last ∷ []; name = last.facts.name; spot = spot }

-- those of the cause's plan
abbrev pub AreFilesOfPlan : SidesOf → Cause → PlannedFiles → Type 0
AreFilesOfPlan s e r = r ≡ files_of_plan (plan s.old s.new (package_of s) e) (plan_bodies s.old s.new (package_of s) e)

-- ---- as they are written

-- the name of the class
abbrev pub class_of_file : Blueprint → Bytes
class_of_file b = b.facts.name

-- the same in byte order of names
abbrev pub in_order : PlannedFiles → PlannedFiles
in_order r = record r { files = by_name class_of_file r.files }

-- the class file can be written and passes no limit of the format
pub record IsReady (b : Blueprint) : Type 0 where
  pub formed : IsFormed b
  pub fits : IsTrue (fits_whole b)

-- the names of its classes differ, and each of its class files can be written
pub record CanBeWritten (r : PlannedFiles) : Type 0 where
  pub differ : NamesRise class_of_file (by_name class_of_file r.files)
  pub ready : All IsReady (by_name class_of_file r.files)

-- the spot, where it is that of the class of this name
abbrev pub spot_in : PlannedFiles → Bytes → Option Spot
spot_in r x = cond (same x r.name) (Some r.spot) None

abbrev pub written_file : PlannedFiles → Blueprint → WitnessFile
written_file r b = record { «class» = b.facts.name; bytes = written b; spot = spot_in r b.facts.name }

abbrev pub written_files : PlannedFiles → List WitnessFile
written_files r = map (written_file r) r.files
