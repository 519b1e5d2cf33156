use Rattle.std.proofs.Common.{◌≡◌, take, false}
use Rattle.std.specs.List.{list_any}
use Rattle.jc_index.specs.Ids.{name_at, names}
use Rattle.jc_exposed.specs.Exposing.{opens_usable}
use Rattle.jc_exposed.proofs.first_act.first_through.Given as goal

abbrev pub invariant-loop-n : goal.invariant-loop-n
invariant-loop-n l = list_any (λ c. opens_usable l.table c (name_at l.table l.seat) l.exposed) (take l.n (names l.table)) ≡ false
