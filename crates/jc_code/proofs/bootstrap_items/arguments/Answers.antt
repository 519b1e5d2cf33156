use Rattle.std.proofs.Common.{◌-◌, ◌+◌, ◌/◌, length, arith}
use Rattle.jc_facts.specs.code.Code.{arguments_items}
use Rattle.jc_code.specs.steps.Pushed.{onto}
use Rattle.jc_code.proofs.Arguments.{arguments_step, arguments_bad, arguments_done}
use Rattle.jc_code.proofs.bootstrap_items.arguments.Goals as goal

pub returns-then-not-branch : goal.returns-then-not-branch
returns-then-not-branch c = arguments_bad c.args.pool.now (length c.args.bytes.now / 2 - c.loop.counter) (length c.args.bytes.now / 2 - (c.loop.counter + 1)) c.loop.rest.now c.loop.items.items c.argument.new.items.items
    (onto c.args.items.now.items (arguments_items c.args.pool.now (length c.args.bytes.now / 2) c.args.bytes.now)) (omega arith) (rw (c.if-not-branch.true, c.short_in.ensures) at c.in_ok-argument.ensures) c.loop.invariant

pub loop-preserved : goal.loop-preserved
loop-preserved c = rw c.after-rest.ensures.rest (arguments_step c.args.pool.now (length c.args.bytes.now / 2 - c.loop.counter) (length c.args.bytes.now / 2 - (c.loop.counter + 1)) c.loop.rest.now c.loop.items.items c.argument.new.items.items
    (onto c.args.items.now.items (arguments_items c.args.pool.now (length c.args.bytes.now / 2) c.args.bytes.now)) (omega arith) (rw (c.if-not-branch.false, c.short_in.ensures) at c.in_ok-argument.ensures) c.loop.invariant)

pub returns : goal.returns
returns c = arguments_done c.args.pool.now (length c.args.bytes.now / 2 - c.loop.counter) c.loop.rest.now c.loop.items.items (onto c.args.items.now.items (arguments_items c.args.pool.now (length c.args.bytes.now / 2) c.args.bytes.now)) (omega arith) c.loop.invariant
