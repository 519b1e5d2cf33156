use Rattle.std.proofs.Common.{◌≡◌, ◌<◌, length, true}
use Rattle.jc_acts.specs.Touched.{flag_at}
use Rattle.jc_exposed.proofs.first_act.flag_of.Given as goal

abbrev pub invariant-loop-n : goal.invariant-loop-n
invariant-loop-n l = (length l.flags.items ≡ l.n) × (l.class < l.n → flag_at l.flags.items l.class ≡ true)
