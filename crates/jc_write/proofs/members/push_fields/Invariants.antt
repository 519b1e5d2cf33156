use Rattle.std.proofs.Common.{◌≡◌, ◌++◌, drop}
use Rattle.jc_facts.specs.written.PoolEntries.{joined, counted}
use Rattle.jc_facts.specs.written.Written.{field_bytes, are_short}
use Rattle.jc_write.proofs.members.push_fields.Given as goal

abbrev pub invariant-loop-field : goal.invariant-loop-field
invariant-loop-field l = (l.bytes.items ++ joined (field_bytes l.pool.keys) (drop l.field-index l.fields) ≡ l.fn.bytes.items ++ counted (field_bytes l.pool.keys) l.fields) × (are_short (drop l.field-index l.fields) ≡ are_short l.fields)
