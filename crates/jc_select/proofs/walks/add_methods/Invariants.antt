use Rattle.std.proofs.Common.{true, take}
use Rattle.jc_sides.specs.steps.KeySets.{AddsKeys, has_member}
use Rattle.jc_select.proofs.walks.add_methods.Given as goal

abbrev pub invariant-loop-method : goal.invariant-loop-method
invariant-loop-method l = AddsKeys (has_member (λ m. true) (take l.method-index l.«class».methods)) l.fn.keys.items l.keys.items
