use Rattle.std.proofs.Common.{◌≡◌, map, take}
use Rattle.jc_index.specs.Ids.{names}
use Rattle.jc_acts.specs.Touched.{is_changed}
use Rattle.jc_acts.proofs.touched.changed.Given as goal

abbrev pub invariant-loop-n : goal.invariant-loop-n
invariant-loop-n l = l.flags.items ≡ map (is_changed l.sides) (take l.n (names l.sides.old))
