use Rattle.std.proofs.Common.{◌≡◌, ◌<◌, ◌-◌, ◌+◌, suc, Some, None, arith, refl}
use Rattle.jc_facts.specs.world.World.{size}
use Rattle.jc_index.specs.Ids.{name_at}
use Rattle.jc_index.proofs.Walks.{way_starts, way_found, way_on, way_top, way_out}
use Rattle.jc_call_lines.proofs.choice.choose.Goals as goal

pub loop-init : goal.loop-init
loop-init g c = way_starts c.args.table.now (g.C.Choice.given c.args.choice.now c.args.table.now) c.args.class (size c.args.table.now - 0) c.requires.class (omega arith)

pub interfaces-requires : goal.interfaces-requires
interfaces-requires g c = c.loop.invariant.within

pub returns-in-Some : goal.returns-in-Some
returns-in-Some g c =
    let left : 0 < size c.args.table.now - c.loop.counter = omega (arith, c.count-end.ensures.count) in
    way_found c.args.table.now c.count-end.ensures.side.differ (name_at c.args.table.now c.args.class) (g.C.Choice.given c.args.choice.now c.args.table.now) (size c.args.table.now - c.loop.counter) c.loop.at c.interfaces.result.now (Some c.in-Some.found) c.in-Some.found
    c.loop.invariant left c.interfaces.ensures c.in-Some.ensures refl

pub superclass-requires : goal.superclass-requires
superclass-requires g c = c.loop.invariant.within

pub returns-in-None-superclass : goal.returns-in-None-superclass
returns-in-None-superclass g c =
    let left : 0 < size c.args.table.now - c.loop.counter = omega (arith, c.count-end.ensures.count) in
    way_top c.args.table.now c.count-end.ensures.side.differ (name_at c.args.table.now c.args.class) (g.C.Choice.given c.args.choice.now c.args.table.now) (size c.args.table.now - c.loop.counter) c.loop.at c.interfaces.result.now None
    c.loop.invariant left c.interfaces.ensures c.in-None.ensures refl c.in-None-superclass.ensures.value

pub loop-preserved : goal.loop-preserved
loop-preserved g c =
    let one : suc (size c.args.table.now - (c.loop.counter + 1)) ≡ size c.args.table.now - c.loop.counter = omega (arith, c.count-end.ensures.count) in
    way_on c.args.table.now c.count-end.ensures.side.differ (name_at c.args.table.now c.args.class) (g.C.Choice.given c.args.choice.now c.args.table.now) (size c.args.table.now - c.loop.counter) (size c.args.table.now - (c.loop.counter + 1)) c.loop.at c.in-Some-superclass.above
    c.interfaces.result.now None c.loop.invariant one c.interfaces.ensures c.in-None.ensures refl c.in-Some-superclass.ensures.value c.in-Some-superclass.ensures.of_table

pub returns : goal.returns
returns g c =
    let none : size c.args.table.now - c.loop.counter ≡ 0 = omega (arith, c.count-end.ensures.count) in
    way_out c.args.table.now c.count-end.ensures.side.differ (name_at c.args.table.now c.args.class) (g.C.Choice.given c.args.choice.now c.args.table.now) (size c.args.table.now - c.loop.counter) c.loop.at c.loop.invariant none

pub first_of-requires-clause-differ : goal.first_of-requires-clause-differ
first_of-requires-clause-differ g c = c.count-end.ensures.side.differ
