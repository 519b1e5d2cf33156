use Rattle.std.proofs.Common.{take}
use Rattle.jc_facts.specs.world.Inheritance.{is_open_final}
use Rattle.jc_sides.specs.steps.KeySets.{AddsKeys, has_member}
use Rattle.jc_sides.proofs.members.add_finals.Given as goal

abbrev pub invariant-loop-method : goal.invariant-loop-method
invariant-loop-method l = AddsKeys (has_member is_open_final (take l.method-index l.class.methods)) l.fn.keys.items l.keys.items
