use Rattle.std.proofs.Common.{◌≡◌, ◌-◌, drop}
use Rattle.jc_facts.specs.Options.{first_some}
use Rattle.jc_field.specs.steps.Fields.{found_to}
use Rattle.jc_field.proofs.plain.+search.Given as goal

abbrev pub decreases-search : goal.decreases-search
decreases-search l = l.levels

abbrev pub invariant-loop-interface : goal.invariant-loop-interface
invariant-loop-interface l = first_some (found_to l.table l.key (l.fn.levels - 1)) l.facts.interfaces ≡ first_some (found_to l.table l.key (l.fn.levels - 1)) (drop l.interface-index l.facts.interfaces)
