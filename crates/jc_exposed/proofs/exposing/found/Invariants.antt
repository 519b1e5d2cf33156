use Rattle.std.proofs.Common.{take}
use Rattle.std.specs.List.{list_any}
use Rattle.jc_index.specs.Ids.{names}
use Rattle.jc_exposed.specs.Exposing.{is_wanted, opens_usable}
use Rattle.jc_exposed.specs.Rows.{AreRows}
use Rattle.jc_exposed.proofs.exposing.found.Given as goal

abbrev pub invariant-loop-n : goal.invariant-loop-n
invariant-loop-n l = AreRows l.table (is_wanted l.own) (λ a t. list_any (λ c. opens_usable l.table c a t) (take l.n (names l.table))) l.rows.items
