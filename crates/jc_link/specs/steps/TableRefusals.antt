-- Why clients aren't linked, where a table isn't built.
use Rattle.jc_table.specs.declared.table.TableError.{TableError}
use Rattle.jc_table.specs.declared.table.TableError.TheVariants as errors
use Rattle.jc_link.specs.declared.refusal.LinkRefusal.{LinkRefusal}
use Rattle.jc_link.specs.declared.refusal.LinkRefusal.TheVariants as refusals

-- the same cause
abbrev pub refusal_by : TableError → LinkRefusal
refusal_by (errors.BadRoot part) = refusals.BadRoot part
refusal_by (errors.Overlap name) = refusals.Overlap name
refusal_by errors.Memory = refusals.Memory
