use Rattle.std.proofs.Common.{◌≡◌, map, take}
use Rattle.jc_index.specs.Ids.{id_of, names}
use Rattle.jc_sides.proofs.sides.new_ids.Given as goal

abbrev pub invariant-loop-n : goal.invariant-loop-n
invariant-loop-n l = l.ids.items ≡ map (id_of l.new) (take l.n (names l.old))
