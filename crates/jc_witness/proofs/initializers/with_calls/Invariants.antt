use Rattle.std.proofs.Common.{◌≡◌, drop, codes}
use Rattle.jc_witness.specs.steps.MoreInits.{with_inits}
use Rattle.jc_witness.proofs.initializers.with_calls.Given as goal

abbrev pub invariant-loop-exposed : goal.invariant-loop-exposed
invariant-loop-exposed l = with_inits l.draft l.superclass l.ints.items (drop l.exposed-index l.acts) ≡ with_inits l.fn.draft l.superclass (codes "I") l.acts
