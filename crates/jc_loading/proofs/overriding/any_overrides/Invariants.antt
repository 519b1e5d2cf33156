use Rattle.std.proofs.Common.{◌≡◌, drop}
use Rattle.std.specs.List.{list_any}
use Rattle.jc_facts.specs.world.Overriding.{directly_overrides}
use Rattle.jc_loading.proofs.overriding.any_overrides.Given as goal

abbrev pub invariant-loop-method : goal.invariant-loop-method
invariant-loop-method l = list_any (λ b. directly_overrides b l.above) l.below ≡ list_any (λ b. directly_overrides b l.above) (drop l.method-index l.below)
