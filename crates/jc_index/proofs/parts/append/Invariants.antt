use Rattle.std.proofs.Common.{◌≡◌, ◌++◌, take}
use Rattle.jc_index.proofs.parts.append.Given as goal

abbrev pub invariant-loop-number : goal.invariant-loop-number
invariant-loop-number l = l.ids.items ≡ l.fn.ids.items ++ take l.number-index l.numbers
