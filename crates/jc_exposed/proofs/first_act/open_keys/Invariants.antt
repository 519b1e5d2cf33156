use Rattle.std.proofs.Common.{take}
use Rattle.std.specs.List.{list_any}
use Rattle.jc_index.specs.Ids.{name_at, names}
use Rattle.jc_exposed.specs.FirstAct.{Collects, has_open_at}
use Rattle.jc_exposed.proofs.first_act.open_keys.Given as goal

abbrev pub invariant-loop-n : goal.invariant-loop-n
invariant-loop-n l = Collects (λ g. list_any (has_open_at l.table (name_at l.table l.seat) (name_at l.table l.exposed) (name_at l.table l.class) g) (take l.n (names l.table))) l.keys.items
