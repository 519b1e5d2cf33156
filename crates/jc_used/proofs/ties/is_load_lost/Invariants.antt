use Rattle.std.proofs.Common.{◌≡◌, drop}
use Rattle.jc_used.specs.Explains.{is_load_lost}
use Rattle.jc_used.proofs.ties.is_load_lost.Given as goal

abbrev pub invariant-loop-outcome : goal.invariant-loop-outcome
invariant-loop-outcome l = is_load_lost (drop l.outcome-index l.lost) l.name ≡ is_load_lost l.lost l.name
