use Rattle.std.proofs.Common.{set, ap}
use Rattle.jc_loading.specs.steps.Entering.{bottom}
use Rattle.jc_loading.proofs.Turns.{start}
use Rattle.jc_loading.specs.declared.faults.State.TheVariants as states
use Rattle.jc_loading.proofs.Ordering.{orders-started, way-starts}
use Rattle.jc_loading.proofs.faults.enter.Goals as goal

pub up-init : goal.up-init
up-init c = (
  start c.args.index.now c.args.states.now c.number.result c.args.class c.new-path.result.items c.number.ensures c.new-path.ensures.items c.requires.inside c.requires.settled,
  ap (λ fs. bottom fs c.args.class) c.new-path.ensures.items,
  orders-started c.args.index.now c.args.states.now c.number.result c.args.class c.args.order.now.items c.number.ensures c.requires.inside c.requires.settled.right.count c.requires.orders,
  way-starts c.args.index.now (set c.args.states.now c.number.result states.Entered) c.new-path.result.items c.args.class c.new-path.ensures.items,
  λ n h. h,
)
