use Rattle.std.proofs.Common.{◌≡◌, ◌&&◌, map, take}
use Rattle.jc_index.specs.Ids.{names}
use Rattle.jc_promises.specs.rule.Exposed.{is_hidden}
use Rattle.jc_call_lines.specs.steps.JoinLines.{is_below}
use Rattle.jc_call_lines.proofs.joins.wanted.Given as goal

abbrev pub invariant-loop-n : goal.invariant-loop-n
invariant-loop-n l = l.flags.items ≡ map (λ x. is_hidden l.table x && is_below l.table l.targets x) (take l.n (names l.table))
