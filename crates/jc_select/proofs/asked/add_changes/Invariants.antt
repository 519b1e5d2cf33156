use Rattle.std.proofs.Common.{◌≡◌, ◌++◌, take}
use Rattle.std.specs.Prelude.{[], slice_index_or}
use Rattle.jc_select.proofs.asked.add_changes.Given as goal

abbrev pub invariant-loop-key : goal.invariant-loop-key
invariant-loop-key l = l.keys.items ≡ l.fn.keys.items ++ take l.key-index (slice_index_or l.changes l.fn.«class» [])
