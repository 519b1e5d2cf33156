use Rattle.std.proofs.Common.{◌≡◌, ◌++◌, drop}
use Rattle.std.specs.List.{zip}
use Rattle.jc_answers.proofs.pair.pairs.Given as goal

abbrev pub invariant-loop-i : goal.invariant-loop-i
invariant-loop-i g l = l.pairs.items ++ zip (drop l.i l.firsts) (drop l.i l.seconds) ≡ zip l.firsts l.seconds
