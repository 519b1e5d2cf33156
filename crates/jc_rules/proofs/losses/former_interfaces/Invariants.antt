use Rattle.std.proofs.Common.{◌≡◌, map, take}
use Rattle.jc_index.specs.Ids.{names}
use Rattle.jc_rules.specs.steps.Losses.{was_interface}
use Rattle.jc_rules.proofs.losses.former_interfaces.Given as goal

abbrev pub invariant-loop-n : goal.invariant-loop-n
invariant-loop-n l = l.flags.items ≡ map (was_interface l.sides) (take l.n (names l.sides.old))
