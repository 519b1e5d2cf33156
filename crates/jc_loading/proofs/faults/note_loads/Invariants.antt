use Rattle.std.proofs.Common.{take}
use Rattle.jc_loading.specs.steps.Entering.{AllLoad}
use Rattle.jc_loading.proofs.faults.note_loads.Given as goal

abbrev pub invariant-loop-id : goal.invariant-loop-id
invariant-loop-id l = AllLoad l.initial.states (take l.id-index l.ids) l.states
