use Rattle.std.proofs.Common.{◌≡◌, ◌++◌, take}
use Rattle.jc_link.specs.steps.TakenNames.{wanted}
use Rattle.jc_link.proofs.client_names.push_each.Given as goal

abbrev pub invariant-loop-name : goal.invariant-loop-name
invariant-loop-name l = l.list.items ≡ l.fn.list.items ++ wanted l.names (take l.name-index l.each)
