use Rattle.std.proofs.Common.{◌≡◌, take}
use Rattle.std.specs.List.{filter}
use Rattle.jc_select.specs.steps.Losing.{has_left}
use Rattle.jc_select.proofs.losing.those_left.Given as goal

abbrev pub invariant-loop-id : goal.invariant-loop-id
invariant-loop-id l = l.left.items ≡ filter (has_left l.sides l.above) (take l.id-index l.ids)
