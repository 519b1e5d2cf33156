use Rattle.std.proofs.Common.{take}
use Rattle.jc_index.specs.steps.HashedKeys.{HaveNames}
use Rattle.jc_index.proofs.final_keys.names_of.Given as goal

abbrev pub invariant-loop-key : goal.invariant-loop-key
invariant-loop-key l = HaveNames l.names (take l.key-index l.keys)
