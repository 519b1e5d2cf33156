use Rattle.std.proofs.Common.{◌-◌, ◌+◌, ◌/◌, length, arith}
use Rattle.jc_facts.specs.code.Code.{catches_at}
use Rattle.jc_code.specs.steps.Pushed.{in_front}
use Rattle.jc_code.proofs.EachInstruction.{catches_step, catches_bad, catches_done}
use Rattle.jc_code.proofs.catches.catches.Goals as goal

pub returns-then-not-branch : goal.returns-then-not-branch
returns-then-not-branch c = catches_bad c.args.pool.now c.loop.here (length c.args.bytes.now / 8 - c.loop.counter) (length c.args.bytes.now / 8 - (c.loop.counter + 1)) c.loop.rest.now c.loop.items.items c.caught.new.items.items
    (in_front c.args.items.now.items (catches_at c.args.pool.now c.args.left (length c.args.bytes.now / 8) c.args.bytes.now)) (omega arith) (rw (c.if-not-branch.true, c.short_in.ensures) at c.in_ok-caught.ensures) c.loop.invariant

pub loop-preserved : goal.loop-preserved
loop-preserved c = rw (c.after-rest.ensures.rest, c.saturating_sub-here.ensures) (catches_step c.args.pool.now c.loop.here (length c.args.bytes.now / 8 - c.loop.counter) (length c.args.bytes.now / 8 - (c.loop.counter + 1)) c.loop.rest.now c.loop.items.items c.caught.new.items.items
    (in_front c.args.items.now.items (catches_at c.args.pool.now c.args.left (length c.args.bytes.now / 8) c.args.bytes.now)) (omega arith) (rw (c.if-not-branch.false, c.short_in.ensures) at c.in_ok-caught.ensures) c.loop.invariant)

pub returns : goal.returns
returns c = catches_done c.args.pool.now c.loop.here (length c.args.bytes.now / 8 - c.loop.counter) c.loop.rest.now c.loop.items.items (in_front c.args.items.now.items (catches_at c.args.pool.now c.args.left (length c.args.bytes.now / 8) c.args.bytes.now)) (omega arith) c.loop.invariant
