use Rattle.std.proofs.Common.{take}
use Rattle.jc_desc.specs.Names.{is_init_name}
use Rattle.jc_sides.specs.steps.KeySets.{AddsKeys, has_member}
use Rattle.jc_sides.proofs.members.init_keys.Given as goal

abbrev pub invariant-loop-method : goal.invariant-loop-method
invariant-loop-method l = AddsKeys (has_member (λ m. is_init_name m.name) (take l.method-index l.class.methods)) l.initial.keys.items l.keys.items
