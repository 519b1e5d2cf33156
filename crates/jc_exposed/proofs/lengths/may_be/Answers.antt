use Rattle.std.proofs.Common.{true, false, sym, arith}
use Rattle.std.proofs.Math.ListN.{get_or-eq_default}
use Rattle.std.proofs.lemmas.List.{get_or_default}
use Rattle.jc_exposed.proofs.lengths.may_be.Goals as goal

pub returns-then-bytes-lengths : goal.returns-then-bytes-lengths
returns-then-bytes-lengths c = get_or_default c.args.lengths.now c.args.bytes false true (omega arith)

pub returns-else-bytes-lengths : goal.returns-else-bytes-lengths
returns-else-bytes-lengths c = sym (get_or-eq_default c.args.lengths.now true (omega arith))
