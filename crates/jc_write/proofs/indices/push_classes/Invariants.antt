use Rattle.std.proofs.Common.{◌≡◌, ◌++◌, drop}
use Rattle.jc_facts.specs.written.PoolEntries.{joined, counted}
use Rattle.jc_facts.specs.written.Written.{class_index}
use Rattle.jc_write.proofs.indices.push_classes.Given as goal

abbrev pub invariant-loop-name : goal.invariant-loop-name
invariant-loop-name l = l.bytes.items ++ joined (class_index l.pool.keys) (drop l.name-index l.names) ≡ l.fn.bytes.items ++ counted (class_index l.pool.keys) l.names
