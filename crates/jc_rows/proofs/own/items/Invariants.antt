use Rattle.std.proofs.Common.{◌≡◌, ◌++◌, drop}
use Rattle.jc_rows.specs.steps.Numbering.{items_of}
use Rattle.jc_rows.proofs.own.items.Given as goal

abbrev pub invariant-loop-at : goal.invariant-loop-at
invariant-loop-at l = l.items.items ++ items_of l.class (drop l.at l.numbers) (drop l.at l.members) ≡ items_of l.class l.numbers l.members
