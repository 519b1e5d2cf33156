use Rattle.std.proofs.Common.{ℕ, List, sym, subst}
use Rattle.jc_index.specs.LoadOrder.{AreInLoadOrder}
use Rattle.jc_loading.specs.declared.faults.State.{State}
use Rattle.jc_loading.specs.steps.Entering.{IsSettled}
use Rattle.jc_loading.specs.steps.Passing.{Orders}
use Rattle.jc_loading.proofs.faults.load_all.Goals as goal

pub states_with-requires-clause-order : goal.states_with-requires-clause-order
states_with-requires-clause-order c = subst (AreInLoadOrder c.args.index.now) (sym c.as_slice.ensures.value) c.in_ok-order.ensures.order

pub all_faults-requires-clause-settled : goal.all_faults-requires-clause-settled
all_faults-requires-clause-settled c = subst (IsSettled c.args.index.now) (sym c.deref_mut.ensures.value) c.in_ok-states.ensures.settled

pub all_faults-requires-clause-orders : goal.all_faults-requires-clause-orders
all_faults-requires-clause-orders c =
    subst (λ (ss : List State). Orders c.args.index.now ss c.in_ok-order.order.items) (sym c.deref_mut.ensures.value)
    (subst (λ (order : List ℕ). Orders c.args.index.now c.in_ok-states.states.items order) c.as_slice.ensures.value c.in_ok-states.ensures.orders)
