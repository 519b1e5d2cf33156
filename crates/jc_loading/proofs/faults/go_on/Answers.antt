use Rattle.std.proofs.Common.{◌≡◌, Some, None, arith}
use Rattle.jc_loading.proofs.Turns.{fail-path, lent-inside}
use Rattle.jc_loading.proofs.Ordering.{orders-noted}
use Rattle.jc_loading.proofs.faults.go_on.Goals as goal

pub note-requires : goal.note-requires
note-requires c = record {
  path = lent-inside c.args.index.now c.args.states.now c.args.path.now.items c.as_slice.result.now c.args.top c.as_slice.ensures.value c.requires.way;
  top = let e = c.requires.way.right.count in let i = c.requires.way.inside in omega arith;
}

pub returns-in-Fault-clause-turns : goal.returns-in-Fault-clause-turns
returns-in-Fault-clause-turns c = fail-path c.args.index.now c.args.states.now c.note.new.states c.args.path.now.items c.as_slice.result.now c.args.top c.in-Fault.fault c.as_slice.ensures.value c.requires.way c.in-Fault.ensures.goes c.note.ensures

pub returns-in-Fault-clause-ordered : goal.returns-in-Fault-clause-ordered
returns-in-Fault-clause-ordered c = (
  orders-noted c.args.index.now c.args.states.now c.note.new.states c.as_slice.result.now c.args.top.class c.in-Fault.fault c.args.order.now.items c.note.ensures c.requires.orders,
  λ e. absurd (let q : Some c.in-Fault.fault ≡ None = e in cc),
)

pub returns-in-Fault-clause-grows : goal.returns-in-Fault-clause-grows
returns-in-Fault-clause-grows c = λ n h. h

pub returns-in-Ok-clause-ordered : goal.returns-in-Ok-clause-ordered
returns-in-Ok-clause-ordered c = c.in-Ok.ensures.ordered c.args.order.now.items c.requires.orders
