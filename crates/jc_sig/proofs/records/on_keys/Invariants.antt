use Rattle.std.proofs.Common.{◌≡◌, List, ◌++◌}
use Rattle.std.specs.List.{filter_map}
use Rattle.jc_facts.specs.declared.key.Key.{Key}
use Rattle.jc_sig.specs.steps.OnRecords.{note_in}
use Rattle.jc_sig.proofs.records.on_keys.Given as goal

abbrev pub invariant-loop-key : goal.invariant-loop-key
invariant-loop-key l = (front : List Key) × (l.before.keys ≡ front ++ l.key-iterator) × (l.notes.items ≡ filter_map (note_in l.name l.was l.now l.before l.after) front)
