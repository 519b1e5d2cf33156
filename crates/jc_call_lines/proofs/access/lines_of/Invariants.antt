use Rattle.std.proofs.Common.{◌≡◌, ◌++◌}
use Rattle.jc_call_lines.proofs.access.lines_of.Given as goal

abbrev pub invariant-loop-one : goal.invariant-loop-one
invariant-loop-one l = l.lines.items ++ l.one-iterator.rest.items ≡ l.fn.made.items
