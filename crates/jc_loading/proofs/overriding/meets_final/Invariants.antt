use Rattle.std.proofs.Common.{◌≡◌, ◌<◌, ◌-◌, ◌∷◌, []}
use Rattle.std.specs.Prelude.{IfSome}
use Rattle.jc_facts.specs.world.World.{size}
use Rattle.jc_facts.specs.world.Overriding.{reaches_final}
use Rattle.jc_index.specs.steps.Walking.{chain_from}
use Rattle.jc_loading.proofs.overriding.meets_final.Given as goal

abbrev pub invariant-loop-done : goal.invariant-loop-done
invariant-loop-done l =
    IfSome l.next (λ id. id < size l.index)
    × (reaches_final l.key (l.fn.method ∷ []) (chain_from l.index (size l.index) l.fn.above) ≡ reaches_final l.key l.below.items (chain_from l.index (size l.index - l.done) l.next))
