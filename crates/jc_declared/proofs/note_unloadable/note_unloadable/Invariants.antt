use Rattle.std.proofs.Common.{◌≡◌, take}
use Rattle.std.specs.List.{filter_map}
use Rattle.jc_index.specs.Ids.{names}
use Rattle.jc_declared.specs.steps.Notes.{unloadable}
use Rattle.jc_declared.proofs.note_unloadable.note_unloadable.Given as goal

abbrev pub invariant-loop-n : goal.invariant-loop-n
invariant-loop-n l = l.notes.items ≡ filter_map (unloadable l.table l.of_old) (take l.n (names l.table))
