use Rattle.std.proofs.Common.{◌≡◌, List, ◌++◌}
use Rattle.jc_facts.specs.declared.key.Key.{Key}
use Rattle.jc_facts.specs.file.Valid.{has_key}
use Rattle.jc_index.proofs.hashed_keys.hashed.Given as goal

abbrev pub invariant-loop-key : goal.invariant-loop-key
invariant-loop-key l = (seen : List Key) × ((q : Key) → has_key q l.set ≡ has_key q seen) × (seen ++ l.key-iterator.rest.items ≡ l.fn.keys.items)
