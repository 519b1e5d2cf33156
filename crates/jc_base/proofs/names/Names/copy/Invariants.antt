use Rattle.std.proofs.Common.{◌≡◌, take}
use Rattle.jc_base.proofs.names.Names.copy.Given as goal

abbrev pub invariant-loop-at : goal.invariant-loop-at
invariant-loop-at l = l.copy ≡ take l.at l.names
