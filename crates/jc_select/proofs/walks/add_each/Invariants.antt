use Rattle.std.proofs.Common.{take}
use Rattle.jc_select.specs.steps.Changes.{HaveNone}
use Rattle.jc_select.proofs.walks.add_each.Given as goal

abbrev pub invariant-loop-id : goal.invariant-loop-id
invariant-loop-id l = HaveNone l.table (take l.id-index l.classes) l.fn.keys.items l.keys.items
