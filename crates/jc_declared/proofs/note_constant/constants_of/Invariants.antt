use Rattle.jc_declared.proofs.NoteConstant.{HasLast}
use Rattle.jc_declared.proofs.note_constant.constants_of.Given as goal

abbrev pub invariant-loop-done : goal.invariant-loop-done
invariant-loop-done l = HasLast l.constants l.done l.by_key
