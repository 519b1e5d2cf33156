use Rattle.std.proofs.Common.{◌≡◌, ◌+◌, drop}
use Rattle.jc_used.specs.Explains.{first_from}
use Rattle.jc_used.proofs.explained.first_of.Given as goal

abbrev pub invariant-loop-i : goal.invariant-loop-i
invariant-loop-i l = first_from l.ties (l.i + 1) (drop l.i l.lines) l.item l.error ≡ first_from l.ties 1 l.lines l.item l.error
