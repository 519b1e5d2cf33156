use Rattle.std.proofs.Common.{take}
use Rattle.jc_index.specs.Ids.{name_at}
use Rattle.jc_exposed.specs.Exposing.{Finds, every, opens_one}
use Rattle.jc_exposed.proofs.exposing.found_of_all.Given as goal

abbrev pub invariant-loop-naming : goal.invariant-loop-naming
invariant-loop-naming l = Finds l.table every (opens_one l.table (name_at l.table l.fn.class) (take l.naming-index l.namings)) l.members.items
