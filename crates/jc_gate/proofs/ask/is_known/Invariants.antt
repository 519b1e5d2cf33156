use Rattle.std.proofs.Common.{◌≡◌, drop, map}
use Rattle.jc_gate.specs.Gates.{gate_of, is_known}
use Rattle.jc_gate.proofs.ask.is_known.Given as goal

abbrev pub invariant-loop-gate : goal.invariant-loop-gate
invariant-loop-gate g l =
    is_known (map (λ gate. gate_of (goal.Gate-dyn g (gate.vtable, gate.value)) gate.value) (drop l.gate-index l.gates)) l.name
    ≡ is_known (map (λ gate. gate_of (goal.Gate-dyn g (gate.vtable, gate.value)) gate.value) l.gates) l.name
