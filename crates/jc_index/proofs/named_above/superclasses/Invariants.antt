use Rattle.std.proofs.Common.{◌≡◌, map, take}
use Rattle.jc_index.specs.Ids.{names, superclass_of}
use Rattle.jc_index.proofs.named_above.superclasses.Given as goal

abbrev pub invariant-loop-n : goal.invariant-loop-n
invariant-loop-n l = l.supers.items ≡ map (superclass_of l.classes) (take l.n (names l.classes))
