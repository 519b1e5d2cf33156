-- Why a table isn't built.
use Rattle.std.specs.Prelude.{List, Some, None, ◌≡◌}
use Rattle.jc_facts.specs.declared.class_facts.ClassFacts.{ClassFacts}
use Rattle.jc_index.specs.Root.{fault_of_root}
use Rattle.jc_index.specs.Sides.{overlap_of}
use Rattle.jc_table.specs.declared.table.TableError.{TableError}
use Rattle.jc_table.specs.declared.table.TableError.TheVariants as errors

-- a bad root: its first part that isn't as it has to be. An overlap: the first name that both declare, where the root is as it has
-- to be. Memory may be wanting wherever the root is
abbrev pub HasCause : List ClassFacts → List ClassFacts → TableError → Type 0
HasCause platform release (errors.BadRoot part) = fault_of_root platform ≡ Some part
HasCause platform release (errors.Overlap name) = (fault_of_root platform ≡ None) × (overlap_of platform release ≡ Some name)
HasCause platform release errors.Memory = fault_of_root platform ≡ None
