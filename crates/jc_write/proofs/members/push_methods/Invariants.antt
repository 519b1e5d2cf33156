use Rattle.std.proofs.Common.{◌≡◌, ◌++◌, drop, true}
use Rattle.jc_facts.specs.written.Written.{methods_bytes, fits_bodies, are_short}
use Rattle.jc_write.proofs.members.push_methods.Given as goal

abbrev pub invariant-loop-method : goal.invariant-loop-method
invariant-loop-method l = (l.bytes.items ++ methods_bytes l.pool.keys (drop l.method-index l.methods) l.others ≡ l.fn.bytes.items ++ methods_bytes l.pool.keys l.methods l.bodies) × (fits_bodies l.pool.keys l.others ≡ true) × (are_short (drop l.method-index l.methods) ≡ are_short l.methods)
