use Rattle.std.proofs.Common.{◌≡◌, ◌++◌, map, drop}
use Rattle.jc_used.specs.Explains.{first_explaining}
use Rattle.jc_used.proofs.explained.explained.Given as goal

abbrev pub invariant-loop-loss : goal.invariant-loop-loss
invariant-loop-loss l = l.numbers.items ++ map (first_explaining l.clients l.lost l.lines) (drop l.loss-index l.lost) ≡ map (first_explaining l.clients l.lost l.lines) l.lost
