use Rattle.std.proofs.Common.{List, ℕ}
use Rattle.jc_base.specs.KnownAgain.{AreAgain}
use Rattle.jc_base.proofs.names.pad.Given as goal

abbrev pub invariant-loop : goal.invariant-loop
invariant-loop l = (names : List (List ℕ)) → AreAgain names l.fn.earlier.items → AreAgain names l.earlier.items
