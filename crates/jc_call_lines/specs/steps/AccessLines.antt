-- Lines on methods of interfaces that base classes have above them now.
use Rattle.std.specs.Prelude.{Bool, Option, None, Some, ◌&&◌}
use Rattle.jc_call_kinds.specs.declared.call_line.CallKind.TheVariants.{Access}
use Rattle.jc_call_kinds.specs.declared.call_line.CallLine.{CallLine}
use Rattle.jc_facts.specs.declared.key.Key.{Key}
use Rattle.jc_facts.specs.Names.{Bytes}
use Rattle.jc_facts.specs.Options.{some_where}
use Rattle.jc_promises.specs.rule.Bases.{is_base_class}
use Rattle.jc_calls.specs.Access.{access_added}
use Rattle.jc_sides.specs.SidesOf.{SidesOf}
use Rattle.jc_acts.specs.Seats.{may_be_closed}

-- a base class that may have changed, or one above it
abbrev pub changed_base : SidesOf → Bytes → Bool
changed_base s x = is_base_class s.old s.new x && may_be_closed s x

-- the line on the class x and the key
abbrev pub line_on : Bytes → Key → CallLine
line_on x k = record { kind = Access; «class» = x; key = Some k; target = None }

-- the same, where one is due
abbrev pub access_line : SidesOf → Bytes → Key → Option CallLine
access_line s x k = some_where (access_added s.old s.new x k) (line_on x k)
