-- Lines of references that are lost.
use Rattle.std.specs.Prelude.{Option, None, Some}
use Rattle.jc_call_kinds.specs.declared.call_line.CallKind.TheVariants.{Reference}
use Rattle.jc_call_kinds.specs.declared.call_line.CallLine.{CallLine}
use Rattle.jc_facts.specs.declared.key.Key.{Key}
use Rattle.jc_facts.specs.Names.{Bytes}
use Rattle.jc_facts.specs.Options.{some_where}
use Rattle.jc_calls.specs.References.{reference_lost}
use Rattle.jc_sides.specs.SidesOf.{SidesOf}

-- the line on the method of the key, named through the class x
abbrev pub reference_line : Bytes → Key → CallLine
reference_line x k = record { kind = Reference; «class» = x; key = Some k; target = None }

-- the same, where its references are lost
abbrev pub lost_line : SidesOf → Bytes → Key → Option CallLine
lost_line s x k = some_where (reference_lost s.old s.new x k) (reference_line x k)
