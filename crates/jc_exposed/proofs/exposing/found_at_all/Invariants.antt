use Rattle.std.proofs.Common.{take}
use Rattle.std.specs.List.{list_any}
use Rattle.jc_index.specs.Ids.{name_at}
use Rattle.jc_exposed.specs.Exposing.{Finds, is_wanted, opens_at}
use Rattle.jc_exposed.proofs.exposing.found_at_all.Given as goal

abbrev pub invariant-loop-id : goal.invariant-loop-id
invariant-loop-id l = Finds l.table (is_wanted l.own) (λ a t. list_any (opens_at l.table (name_at l.table l.fn.class) a t) (take l.id-index l.above)) l.members.items
