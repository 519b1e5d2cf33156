use Rattle.std.proofs.Common.{List, sym, subst}
use Rattle.jc_loading.specs.declared.faults.State.{State}
use Rattle.jc_loading.specs.steps.Entering.{AllLoad, IsSettled}
use Rattle.jc_loading.specs.steps.Passing.{Orders}
use Rattle.jc_loading.proofs.Loads.{known-settled, known-orders}
use Rattle.jc_index.proofs.Standing.{lent_back}
use Rattle.jc_loading.proofs.faults.states_with.Goals as goal

pub returns-clause-settled : goal.returns-clause-settled
returns-clause-settled c =
    let a : AllLoad c.in_ok-states.states.items c.args.ids.now c.note_loads.new.states = subst (λ (ss : List State). AllLoad ss c.args.ids.now c.note_loads.new.states) c.deref_mut.ensures.value c.note_loads.ensures in
    subst (IsSettled c.args.index.now) (sym (lent_back c.in_ok-states.states.len c.note_loads.new.states c.in_ok-states.states.items a.0 c.in_ok-states.states.ok.0))
    (known-settled c.args.index.now c.args.ids.now c.requires.order c.in_ok-states.states.items c.note_loads.new.states c.in_ok-states.ensures.settled a)

pub returns-clause-orders : goal.returns-clause-orders
returns-clause-orders c =
    let a : AllLoad c.in_ok-states.states.items c.args.ids.now c.note_loads.new.states = subst (λ (ss : List State). AllLoad ss c.args.ids.now c.note_loads.new.states) c.deref_mut.ensures.value c.note_loads.ensures in
    subst (λ (ss : List State). Orders c.args.index.now ss c.args.ids.now) (sym (lent_back c.in_ok-states.states.len c.note_loads.new.states c.in_ok-states.states.items a.0 c.in_ok-states.states.ok.0))
    (known-orders c.args.index.now c.args.ids.now c.requires.order c.in_ok-states.states.items c.note_loads.new.states c.in_ok-states.ensures.orders a)
