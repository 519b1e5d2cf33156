use Rattle.std.proofs.Common.{◌≡◌}
use Rattle.jc_loading.specs.steps.Entering.{IsUnderWay, bottom, work}
use Rattle.jc_loading.specs.steps.Passing.{Orders, ArePassedOnWay, Grows}
use Rattle.jc_loading.proofs.faults.enter.Given as goal

abbrev pub invariant-up : goal.invariant-up
invariant-up l = IsUnderWay l.index l.states l.path.items l.top × (bottom l.path.items l.top.class ≡ l.fn.class) × Orders l.index l.states l.order.items × ArePassedOnWay l.index l.states l.path.items l.top × Grows l.initial.order.items l.order.items

abbrev pub decreases-up : goal.decreases-up
decreases-up l = work l.states l.path.items
