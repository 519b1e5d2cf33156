use Rattle.std.proofs.Common.{◌≡◌, ◌++◌}
use Rattle.std.specs.Prelude.{IsTrue}
use Rattle.std.specs.List.{list_all}
use Rattle.jc_link.specs.steps.Asked.{asks_no_clinit, outcomes_of_asked}
use Rattle.jc_link.proofs.outcomes.outcomes_in_order.Given as goal

abbrev pub invariant-loop-asked : goal.invariant-loop-asked
invariant-loop-asked l =
    IsTrue (list_all asks_no_clinit l.asked-iterator.rest.items)
    × (l.outcomes.items ++ outcomes_of_asked l.table l.asked-iterator.rest.items ≡ outcomes_of_asked l.table l.fn.all.items)
