use Rattle.jc_acts.specs.Touched.{flag_at}
use Rattle.jc_exposed.specs.Exposing.{AreOwnRows}
use Rattle.jc_exposed.proofs.own.own_rows.Given as goal

abbrev pub invariant-loop-n : goal.invariant-loop-n
invariant-loop-n l = AreOwnRows l.table (flag_at l.wanted) l.n l.rows.items
