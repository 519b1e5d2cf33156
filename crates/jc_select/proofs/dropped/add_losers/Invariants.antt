use Rattle.std.proofs.Common.{List, ◌++◌, take}
use Rattle.jc_facts.specs.Names.{Bytes}
use Rattle.jc_select.specs.steps.Losing.{AreLosers}
use Rattle.jc_select.proofs.dropped.add_losers.Given as goal

abbrev pub invariant-loop-name : goal.invariant-loop-name
invariant-loop-name l = (xs : List Bytes) → AreLosers l.sides xs l.initial.losers.items → AreLosers l.sides (xs ++ take l.name-index l.names) l.losers.items
