use Rattle.std.specs.Prelude.{slice_get}
use Rattle.jc_index.proofs.FinalKeys.{AreOfFirst}
use Rattle.jc_index.proofs.finals.finals_in_list.Given as goal

abbrev pub invariant-loop-at : goal.invariant-loop-at
invariant-loop-at l = AreOfFirst (slice_get l.classes) l.marks l.at l.keys.items
