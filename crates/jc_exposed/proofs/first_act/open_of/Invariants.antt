use Rattle.std.proofs.Common.{◌==◌, ◌&&◌, take}
use Rattle.std.specs.List.{list_any}
use Rattle.jc_index.specs.Ids.{name_at}
use Rattle.jc_exposed.specs.FirstAct.{Collects, has_open}
use Rattle.jc_exposed.proofs.first_act.open_of.Given as goal

abbrev pub invariant-loop-naming : goal.invariant-loop-naming
invariant-loop-naming l = Collects (λ g. list_any (λ n. (n.exposed == l.exposed) && has_open l.table (name_at l.table l.seat) (name_at l.table l.class) g n.key) (take l.naming-index l.namings)) l.keys.items
