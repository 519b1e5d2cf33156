use Rattle.std.proofs.Common.{◌≡◌, map, take}
use Rattle.jc_index.specs.Ids.{id_of}
use Rattle.jc_index.proofs.named_above.interface_ids.Given as goal

abbrev pub invariant-loop-at : goal.invariant-loop-at
invariant-loop-at l = l.ids.items ≡ map (id_of l.classes) (take l.at l.class.interfaces)
