use Rattle.std.proofs.Common.{◌<◌, ◌≤◌, ◌∙◌, arith}
use Rattle.jc_facts.specs.world.World.{size}
use Rattle.jc_loading.proofs.Turns.{faults-more, faults-all}
use Rattle.jc_loading.proofs.Ordering.{stand-more, stand-all}
use Rattle.jc_loading.proofs.faults.all_faults.Goals as goal

pub loop-n-preserved : goal.loop-n-preserved
loop-n-preserved c = (
  c.in_ok-fault.ensures.settled.0,
  c.in_ok-push.ensures.items ∙ faults-more c.args.index.now c.loop-n.faults.items c.loop-n.n c.new.result c.in_ok-fault.fault (omega arith) c.new.ensures c.loop-n.invariant.1 c.in_ok-fault.ensures.settled.1,
  c.in_ok-fault.ensures.ordered.0,
  stand-more c.args.index.now c.loop-n.n c.new.result c.in_ok-fault.fault c.loop-n.order.items c.fault_of.new.order.items c.new.ensures c.in_ok-fault.ensures.settled.1 c.loop-n.invariant.3 c.in_ok-fault.ensures.grows c.in_ok-fault.ensures.ordered.1,
)

pub returns-clause-faults : goal.returns-clause-faults
returns-clause-faults c =
    let l : size c.args.index.now ≤ c.loop-n.n = omega (arith, c.count-n-end.ensures.count) in
    faults-all c.args.index.now c.loop-n.faults.items c.loop-n.n l c.loop-n.invariant.1

pub loop-n-init : goal.loop-n-init
loop-n-init c = (c.requires.settled, c.in_ok-faults.ensures.items, c.requires.orders, λ k l. absurd (let m : k < 0 = l in omega arith))

pub returns-clause-order : goal.returns-clause-order
returns-clause-order c =
    let l : size c.args.index.now ≤ c.loop-n.n = omega (arith, c.count-n-end.ensures.count) in
    stand-all c.args.index.now c.loop-n.n c.loop-n.states c.loop-n.order.items l c.loop-n.invariant.2 c.loop-n.invariant.3
