use Rattle.std.proofs.Common.{sym, map}
use Rattle.jc_gate.specs.Gates.{gate_of}
use Rattle.jc_words.specs.CommandView.{command_of}
use Rattle.jc_commands.proofs.Asked.{is_sized}
use Rattle.jc_commands.proofs.decide.decide.Goals as goal

pub carry_out-requires : goal.carry_out-requires
carry_out-requires g c =
    is_sized (map (λ gate. gate_of (goal.Gate-dyn g (gate.vtable, gate.value)) gate.value) c.args.gates.now) c.args.words.now (command_of c.in-Ok-asked.command)
    (sym (rw c.in-Ok-asked.is at c.in-Ok.ensures))
