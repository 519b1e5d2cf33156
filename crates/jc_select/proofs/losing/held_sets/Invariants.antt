use Rattle.std.proofs.Common.{[]}
use Rattle.jc_index.specs.Ids.{name_at}
use Rattle.jc_select.specs.steps.Losing.{AreDone, IsSetOf, loses_at}
use Rattle.jc_select.proofs.losing.held_sets.Given as goal

abbrev pub invariant-loop-n : goal.invariant-loop-n
invariant-loop-n l = AreDone (record { keys = [] }) (λ n set. IsSetOf (loses_at l.sides (name_at l.sides.old n)) set) l.n l.held.items
