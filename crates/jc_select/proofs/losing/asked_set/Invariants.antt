use Rattle.std.proofs.Common.{take}
use Rattle.jc_dropped.specs.Dropped.{asks_for}
use Rattle.jc_index.specs.Ids.{name_at}
use Rattle.jc_select.specs.steps.Losing.{IsSetOf}
use Rattle.jc_select.proofs.SetsOf.{among}
use Rattle.jc_select.proofs.losing.asked_set.Given as goal

abbrev pub invariant-loop-of : goal.invariant-loop-of
invariant-loop-of l = IsSetOf (among (λ j. asks_for l.sides.old l.sides.new (name_at l.sides.old l.id) (name_at l.sides.old j)) (take l.of-index l.row)) l.set
