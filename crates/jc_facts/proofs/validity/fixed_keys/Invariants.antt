use Rattle.std.proofs.Common.{◌≡◌, ◌++◌, drop}
use Rattle.jc_facts.specs.file.Valid.{keys_of_constants}
use Rattle.jc_facts.proofs.validity.fixed_keys.Given as goal

abbrev pub invariant-loop-fixed : goal.invariant-loop-fixed
invariant-loop-fixed l = l.keys.items ++ keys_of_constants (drop l.fixed-index l.constants) ≡ keys_of_constants l.constants
