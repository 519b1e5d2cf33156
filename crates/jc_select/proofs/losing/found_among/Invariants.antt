use Rattle.std.proofs.Common.{◌≡◌, false}
use Rattle.jc_select.specs.steps.Losing.{AreDone, is_found}
use Rattle.jc_select.proofs.losing.found_among.Given as goal

abbrev pub invariant-loop-n : goal.invariant-loop-n
invariant-loop-n l = AreDone false (λ n b. b ≡ is_found l.sides l.lost.rows.items n) l.n l.marks.items
