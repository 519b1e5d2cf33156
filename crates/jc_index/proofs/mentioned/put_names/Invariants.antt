use Rattle.std.proofs.Common.{take}
use Rattle.jc_index.specs.steps.Adding.{AddsNames}
use Rattle.jc_index.proofs.mentioned.put_names.Given as goal

abbrev pub invariant-loop-at : goal.invariant-loop-at
invariant-loop-at l = AddsNames l.fn.set l.set (take l.at l.names)
