use Rattle.std.proofs.Common.{refl, sym, subst}
use Rattle.jc_gate.specs.Gates.{GateOf, gate_of}
use Rattle.jc_gate.specs.Meanings.{IsGateBy, IsCallsGate}
use Rattle.jc_gate.specs.declared.gate.Gate as gate
use Rattle.jc_version.specs.Needs.{IsVersionGate}
use denote.Param.Object.{read_made}
use Rattle.jcompat.proofs.Program.{own_answers}
use Rattle.jcompat.proofs.run_with_gates.OwnLists.{own-1, at-1-1, at-1-2, at-1-3, at-1-4, at-1-5}
use Rattle.jcompat.proofs.run_with_gates.Goals as goal

pub returns-clause-answers : goal.returns-clause-answers
returns-clause-answers g c = (
  _,
  own_answers _
      (rw (c.in_ok-push-5.ensures.items, c.in_ok-push-4.ensures.items, c.in_ok-push-3.ensures.items, c.in_ok-push-2.ensures.items, c.in_ok-push.ensures.items, c.new-gates.ensures.items) (
        subst (IsGateBy _ _) (sym (read_made {G = gate.Ghosts} own-1 _ at-1-1 refl GateOf (λ j w. gate_of j.1 w) _ _ _ c.into_dyn_box.ensures.1)) (rw c.in_ok-new.ensures.ok c.new.ensures.gate),
        subst (IsGateBy _ _) (sym (read_made {G = gate.Ghosts} own-1 _ at-1-2 refl GateOf (λ j w. gate_of j.1 w) _ _ _ c.into_dyn_box-in_ok-new-2.ensures.1)) (rw c.in_ok-new-2.ensures.ok c.new-3.ensures.gate),
        subst (IsGateBy _ _) (sym (read_made {G = gate.Ghosts} own-1 _ at-1-3 refl GateOf (λ j w. gate_of j.1 w) _ _ _ c.into_dyn_box-in_ok-new-3.ensures.1)) (rw c.in_ok-new-3.ensures.ok c.new-5.ensures.gate),
        subst IsVersionGate (sym (read_made {G = gate.Ghosts} own-1 _ at-1-4 refl GateOf (λ j w. gate_of j.1 w) _ _ _ c.into_dyn_box-in_ok-new-4.ensures.1)) (rw c.in_ok-new-4.ensures.ok c.new-7.ensures.gate),
        subst IsCallsGate (sym (read_made {G = gate.Ghosts} own-1 _ at-1-5 refl GateOf (λ j w. gate_of j.1 w) _ _ _ c.into_dyn_box-in_ok-new-5.ensures.1)) (rw c.in_ok-new-5.ensures.ok c.new-9.ensures.gate),
      ))
      c.run.ensures,
)
