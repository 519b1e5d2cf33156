use Rattle.std.proofs.Common.{◌≡◌, drop}
use Rattle.jc_gate.specs.Seen.{seen, informed_by}
use Rattle.jc_gate.proofs.ask.ask.Given as goal

abbrev pub invariant-loop-rule : goal.invariant-loop-rule
invariant-loop-rule g l =
    let now = goal.Gate-dyn g (l.gate.vtable, l.gate.value) in
    let first = goal.Gate-dyn g (l.fn.gate.vtable, l.fn.gate.value) in
    now.pass l.gate.value (seen (now.after l.gate.value) (now.state l.gate.value) (drop l.rule-index l.rules))
    ≡ first.pass l.fn.gate.value (seen (first.after l.fn.gate.value) (informed_by (first.informed l.fn.gate.value) (first.state l.fn.gate.value) l.fn.step) l.rules)
