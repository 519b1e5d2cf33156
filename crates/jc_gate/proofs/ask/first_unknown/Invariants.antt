use Rattle.std.proofs.Common.{◌≡◌, drop, map}
use Rattle.jc_gate.specs.Gates.{gate_of, first_unknown}
use Rattle.jc_gate.proofs.ask.first_unknown.Given as goal

abbrev pub invariant-loop-name : goal.invariant-loop-name
invariant-loop-name g l =
    let gates = map (λ gate. gate_of (goal.Gate-dyn g (gate.vtable, gate.value)) gate.value) l.gates in
    first_unknown gates (map (λ name. name.now) (drop l.name-index l.names)) ≡ first_unknown gates (map (λ name. name.now) l.names)
