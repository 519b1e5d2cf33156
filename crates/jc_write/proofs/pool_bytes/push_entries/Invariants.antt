use Rattle.std.proofs.Common.{◌≡◌, ◌++◌, drop}
use Rattle.jc_facts.specs.written.PoolEntries.{joined, entry_bytes}
use Rattle.jc_write.proofs.pool_bytes.push_entries.Given as goal

abbrev pub invariant-loop-entry : goal.invariant-loop-entry
invariant-loop-entry l = l.bytes.items ++ joined (entry_bytes l.pool.keys) (drop l.entry-index l.entries) ≡ l.fn.bytes.items ++ joined (entry_bytes l.pool.keys) l.entries
