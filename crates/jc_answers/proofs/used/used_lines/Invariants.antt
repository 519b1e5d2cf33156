use Rattle.std.proofs.Common.{◌≡◌, ◌+◌, ◌++◌, drop}
use Rattle.jc_answers.specs.Used.{used_from}
use Rattle.jc_answers.proofs.used.used_lines.Given as goal

abbrev pub invariant-loop-i : goal.invariant-loop-i
invariant-loop-i l = l.used.items ++ used_from l.explained (l.i + 1) (drop l.i l.entries) ≡ used_from l.explained 1 l.entries
