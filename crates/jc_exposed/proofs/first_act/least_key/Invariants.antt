use Rattle.std.proofs.Common.{◌≡◌, ◌-◌, length, drop}
use Rattle.std.specs.Option.{option_copied}
use Rattle.jc_facts.specs.KeyOrder.{key_cmp}
use Rattle.jc_promises.specs.rule.Exposed.{first_by}
use Rattle.jc_exposed.proofs.first_act.least_key.Given as goal

abbrev pub invariant-loop-done : goal.invariant-loop-done
invariant-loop-done l = option_copied l.least ≡ first_by key_cmp (drop (length l.keys - l.done) l.keys)
