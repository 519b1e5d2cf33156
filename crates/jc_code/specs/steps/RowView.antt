-- A bootstrap method, without where its arguments lie in memory.
use Rattle.jc_facts.specs.file.Attributes.{BootstrapOf}
use Rattle.jc_code.specs.declared.row.Row.{Row}

abbrev pub row_view : Row → BootstrapOf
row_view r = record { handle = r.handle; arguments = r.arguments.items }
