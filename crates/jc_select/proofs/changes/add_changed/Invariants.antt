use Rattle.std.proofs.Common.{take}
use Rattle.jc_facts.specs.Names.{key_of}
use Rattle.jc_select.specs.steps.Changes.{differs}
use Rattle.jc_sides.specs.steps.KeySets.{AddsKeys, has_member}
use Rattle.jc_select.proofs.changes.add_changed.Given as goal

abbrev pub invariant-loop-method : goal.invariant-loop-method
invariant-loop-method l = AddsKeys (has_member (λ m. differs l.sides l.before l.now (key_of m)) (take l.method-index l.«class».methods)) l.fn.keys.items l.keys.items
