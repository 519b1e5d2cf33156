use Rattle.std.proofs.Common.{sym}
use Rattle.jc_desc.proofs.Pools.{pool_is}
use Rattle.jc_pool.proofs.pool.Pool.read.Goals as goal

pub returns-in-Ok-Ok : goal.returns-in-Ok-Ok
returns-in-Ok-Ok c = (c.in-Ok-Ok.rest.now, pool_is c.args.bytes.now (c.in-Ok-Ok.pool, c.in-Ok-Ok.rest.now) (sym (rw c.in-Ok-Ok.field-0-is at c.in-Ok-Ok.ensures)), c.saturating_sub.ensures)
