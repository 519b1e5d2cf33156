use Rattle.std.proofs.Common.{sym, arith}
use Rattle.std.proofs.lemmas.List.{length-take-le}
use Rattle.jc_base.proofs.name.NameHash.hash.Goals as goal

pub slice_bounds-write-end : goal.slice_bounds-write-end
slice_bounds-write-end g c = sym (length-take-le 512 c.as_bytes-bytes.result.now (omega (arith, c.if-bytes-le-HASHED.false)))
