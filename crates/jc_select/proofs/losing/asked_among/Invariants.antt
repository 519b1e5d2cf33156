use Rattle.std.proofs.Common.{◌≡◌, false}
use Rattle.jc_select.specs.steps.Losing.{AreDone, is_asked}
use Rattle.jc_select.proofs.losing.asked_among.Given as goal

abbrev pub invariant-loop-n : goal.invariant-loop-n
invariant-loop-n l = AreDone false (λ n b. b ≡ is_asked l.sides l.fn.rows n) l.n l.marks.items
