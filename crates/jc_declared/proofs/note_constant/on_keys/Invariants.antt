use Rattle.std.proofs.Common.{◌≡◌, List, ◌++◌}
use Rattle.std.specs.BTreeMap.{keys}
use Rattle.std.specs.List.{filter_map}
use Rattle.jc_facts.specs.declared.key.Key.{Key}
use Rattle.jc_sides.specs.SharedOf.{name_of}
use Rattle.jc_declared.specs.steps.Notes.{constant_note}
use Rattle.jc_declared.proofs.note_constant.on_keys.Given as goal

abbrev pub invariant-loop-key : goal.invariant-loop-key
invariant-loop-key l = (front : List Key) × (keys l.was ≡ front ++ l.key-iterator)
    × (l.notes.items ≡ filter_map (constant_note l.sides (name_of l.class)) front)
