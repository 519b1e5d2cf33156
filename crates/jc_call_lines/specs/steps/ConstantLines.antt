-- Lines on classes of which a switch may list all values.
use Rattle.std.specs.Prelude.{List, Option, None, map}
use Rattle.std.specs.List.{filter}
use Rattle.jc_call_kinds.specs.declared.call_line.CallKind.TheVariants.{Constants}
use Rattle.jc_call_kinds.specs.declared.call_line.CallLine.{CallLine}
use Rattle.jc_facts.specs.declared.class_facts.ClassFacts.{ClassFacts}
use Rattle.jc_facts.specs.Flags.{enum_flag}
use Rattle.jc_facts.specs.Names.{Bytes}
use Rattle.jc_facts.specs.Options.{some_where}
use Rattle.jc_calls.specs.Constants.{constants_added}
use Rattle.jc_sides.specs.SidesOf.{SidesOf}

-- the names of the constants that an enum declares (JVMS 4.5, ACC_ENUM)
abbrev pub constant_names : ClassFacts → List Bytes
constant_names c = map (λ m. m.name) (filter (λ m. enum_flag m.flags) c.fields)

-- the line on the class x, where one is due
abbrev pub constants_line : SidesOf → Bytes → Option CallLine
constants_line s x = some_where (constants_added s.old s.new x) (record { kind = Constants; «class» = x; key = None; target = None })
