use Rattle.std.proofs.Common.{◌≡◌, ◌++◌}
use Rattle.std.specs.Prelude.{IsTrue}
use Rattle.std.specs.List.{list_all}
use Rattle.jc_index.specs.Ids.{name_at}
use Rattle.jc_link.specs.steps.Asked.{names_no_clinit}
use Rattle.jc_facts.specs.client.Linked.{item_outcomes}
use Rattle.jc_link.proofs.outcomes.add_items.Given as goal

abbrev pub invariant-loop-item : goal.invariant-loop-item
invariant-loop-item l =
    IsTrue (list_all names_no_clinit l.item-iterator.rest.items)
    × (l.outcomes.items ++ item_outcomes l.table (name_at l.table l.class) l.item-iterator.rest.items ≡ l.fn.outcomes.items ++ item_outcomes l.table (name_at l.table l.class) l.fn.items.items)
