use Rattle.std.proofs.Common.{◌≡◌, ◌<◌, ◌-◌, ◌+◌, suc, arith}
use Rattle.jc_facts.specs.world.World.{size}
use Rattle.jc_index.specs.Ids.{name_at}
use Rattle.jc_call_lines.proofs.OpenChains.{chain_starts, chain_on, chain_top, chain_out}
use Rattle.jc_call_lines.proofs.openly.is_chain_open.Goals as goal

pub loop-init : goal.loop-init
loop-init c = chain_starts c.args.table.now c.args.class (size c.args.table.now - 0) c.requires (omega arith)

pub is_nameable-requires : goal.is_nameable-requires
is_nameable-requires c = c.loop.invariant.within

pub superclass-requires : goal.superclass-requires
superclass-requires c = c.loop.invariant.within

pub returns-in-None : goal.returns-in-None
returns-in-None c = λ _.
    let left : 0 < size c.args.table.now - c.loop.counter = omega (arith, c.count-end.ensures.count) in
    chain_top c.args.table.now c.count-end.ensures.side.differ (name_at c.args.table.now c.args.class) (size c.args.table.now - c.loop.counter) c.loop.at c.loop.invariant left c.is_nameable.result c.is_nameable.ensures c.if-not-is_nameable.false c.in-None.ensures.value

pub loop-preserved : goal.loop-preserved
loop-preserved c =
    let one : suc (size c.args.table.now - (c.loop.counter + 1)) ≡ size c.args.table.now - c.loop.counter = omega (arith, c.count-end.ensures.count) in
    chain_on c.args.table.now c.count-end.ensures.side.differ (name_at c.args.table.now c.args.class) (size c.args.table.now - c.loop.counter) c.loop.at c.loop.invariant (size c.args.table.now - (c.loop.counter + 1)) c.in-Some.above one
    c.is_nameable.result c.is_nameable.ensures c.if-not-is_nameable.false c.in-Some.ensures.value c.in-Some.ensures.of_table

pub returns : goal.returns
returns c = λ _.
    let none : size c.args.table.now - c.loop.counter ≡ 0 = omega (arith, c.count-end.ensures.count) in
    chain_out c.args.table.now c.count-end.ensures.side.differ (name_at c.args.table.now c.args.class) (size c.args.table.now - c.loop.counter) c.loop.at c.loop.invariant none
