use Rattle.std.proofs.Common.{◌≡◌, drop}
use Rattle.std.specs.List.{list_any}
use Rattle.jc_index.specs.Ids.{name_at}
use Rattle.jc_exposed.specs.Exposures.{exposes_to}
use Rattle.jc_exposed.proofs.exposed.is_by_any.Given as goal

abbrev pub invariant-loop-member : goal.invariant-loop-member
invariant-loop-member l = list_any (exposes_to l.table (name_at l.table l.seat) l.id) (drop l.member-index l.members) ≡ list_any (exposes_to l.table (name_at l.table l.seat) l.id) l.members
