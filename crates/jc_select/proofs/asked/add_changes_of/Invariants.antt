use Rattle.std.proofs.Common.{take}
use Rattle.jc_select.specs.steps.Asked.{HaveThose}
use Rattle.jc_select.proofs.asked.add_changes_of.Given as goal

abbrev pub invariant-loop-id : goal.invariant-loop-id
invariant-loop-id l = HaveThose l.changes (take l.id-index l.classes) l.fn.keys.items l.keys.items
