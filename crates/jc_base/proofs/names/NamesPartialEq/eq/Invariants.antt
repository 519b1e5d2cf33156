use Rattle.std.proofs.Common.{◌≡◌, take}
use Rattle.jc_base.proofs.names.NamesPartialEq.eq.Given as goal

abbrev pub invariant-loop-at : goal.invariant-loop-at
invariant-loop-at l = take l.at l.names ≡ take l.at l.others
