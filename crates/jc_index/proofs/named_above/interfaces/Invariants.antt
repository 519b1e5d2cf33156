use Rattle.std.proofs.Common.{◌≡◌, map, take}
use Rattle.jc_index.specs.Ids.{names}
use Rattle.jc_index.specs.Interfaces.{interfaces_of}
use Rattle.jc_index.proofs.named_above.interfaces.Given as goal

abbrev pub invariant-loop-n : goal.invariant-loop-n
invariant-loop-n l = l.rows.items ≡ map (interfaces_of l.classes) (take l.n (names l.classes))
