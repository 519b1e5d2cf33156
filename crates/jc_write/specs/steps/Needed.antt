-- A pool with what is needed next.
use Rattle.std.specs.Prelude.{List}
use Rattle.jc_facts.specs.written.PoolEntries.{PoolEntry, collected, all_parts}

abbrev pub with_needs : List PoolEntry → List PoolEntry → List PoolEntry
with_needs pool needs = collected pool (all_parts needs)
