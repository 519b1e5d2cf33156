use Rattle.std.proofs.Common.{◌-◌, ◌+◌, ◌/◌, length, arith}
use Rattle.jc_code.specs.steps.Kept.{kept_of}
use Rattle.jc_code.proofs.KeptRows.{kept_step, kept_done}
use Rattle.jc_code.proofs.bootstrap_rows.kept.Goals as goal

pub loop-preserved : goal.loop-preserved
loop-preserved c = rw c.after-rest.ensures.rest (kept_step c.args.pool.now (length c.args.arguments.now / 2 - c.loop.counter) (length c.args.arguments.now / 2 - (c.loop.counter + 1)) c.loop.rest.now c.loop.all.items c.keep.new.kept.items (kept_of c.args.pool.now (length c.args.arguments.now / 2) c.args.arguments.now) (omega arith) c.in_ok-keep.ensures c.loop.invariant)

pub returns : goal.returns
returns c = kept_done c.args.pool.now (length c.args.arguments.now / 2 - c.loop.counter) c.loop.rest.now c.loop.all.items (kept_of c.args.pool.now (length c.args.arguments.now / 2) c.args.arguments.now) (omega arith) c.loop.invariant
