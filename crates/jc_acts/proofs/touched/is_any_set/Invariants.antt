use Rattle.std.proofs.Common.{◌≡◌, drop}
use Rattle.std.specs.List.{list_any}
use Rattle.jc_acts.specs.Touched.{flag_at}
use Rattle.jc_acts.proofs.touched.is_any_set.Given as goal

abbrev pub invariant-loop-id : goal.invariant-loop-id
invariant-loop-id l = list_any (flag_at l.flags) (drop l.id-index l.ids) ≡ list_any (flag_at l.flags) l.ids
