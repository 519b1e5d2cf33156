use Rattle.std.proofs.Common.{◌≡◌, map, take}
use Rattle.jc_index.specs.Ids.{names}
use Rattle.jc_rules.specs.steps.Losses.{loses}
use Rattle.jc_rules.proofs.losses.losing.Given as goal

abbrev pub invariant-loop-n : goal.invariant-loop-n
invariant-loop-n l = l.flags.items ≡ map (loses l.sides) (take l.n (names l.sides.old))
