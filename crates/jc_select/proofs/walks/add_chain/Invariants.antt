use Rattle.std.proofs.Common.{◌-◌}
use Rattle.jc_select.proofs.ChainKeys.{IsPassing}
use Rattle.jc_select.proofs.walks.add_chain.Given as goal

abbrev pub invariant-loop-done : goal.invariant-loop-done
invariant-loop-done l = IsPassing l.table l.fn.first l.levels (l.levels - l.done) l.next l.fn.keys.items l.keys.items
