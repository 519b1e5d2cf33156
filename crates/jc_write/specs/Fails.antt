-- TooBig is answered only where a limit is passed, and bytes only where none is; nothing is said where memory ran out.
use Rattle.std.specs.Prelude.{IsTrue, not}
use Rattle.jc_facts.specs.declared.blueprint.Blueprint.{Blueprint}
use Rattle.jc_facts.specs.written.Written.{fits_whole}
use Rattle.jc_write.specs.declared.write.WriteError.{WriteError}
use Rattle.jc_write.specs.declared.write.WriteError.TheVariants as errors

abbrev pub WriteFails : Blueprint → WriteError → Type 0
WriteFails b errors.TooBig = IsTrue (not (fits_whole b))
WriteFails b errors.Memory = Unit {0}
