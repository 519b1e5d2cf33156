use Rattle.std.proofs.Common.{◌≡◌, drop, map}
use Rattle.jc_gate.specs.Gates.{gate_of, is_selected}
use Rattle.jc_gate.proofs.ask.is_asked.Given as goal

abbrev pub invariant-loop-name : goal.invariant-loop-name
invariant-loop-name g l =
    is_selected (map (λ name. name.now) (drop l.name-index l.names)) (gate_of (goal.Gate-dyn g (l.gate.vtable, l.gate.value)) l.gate.value)
    ≡ is_selected (map (λ name. name.now) l.names) (gate_of (goal.Gate-dyn g (l.gate.vtable, l.gate.value)) l.gate.value)
