use Rattle.std.proofs.Common.{◌≡◌, List}
use Rattle.jc_facts.specs.declared.key.Key.{Key}
use Rattle.jc_facts.specs.Seen.{Holds}
use Rattle.jc_facts.specs.file.Valid.{keys_differ}
use Rattle.jc_facts.proofs.Keys.{differ_from}
use Rattle.jc_facts.proofs.key_set.all_differ.Given as goal

abbrev pub invariant-loop-key : goal.invariant-loop-key
invariant-loop-key l = (front : List Key) × Holds l.seen front × (differ_from front l.key-iterator.rest.items ≡ keys_differ l.fn.keys.items)
