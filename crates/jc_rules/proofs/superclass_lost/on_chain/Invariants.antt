use Rattle.std.proofs.Common.{◌≡◌, ℕ, List, ◌++◌, map}
use Rattle.std.specs.List.{filter_map}
use Rattle.jc_index.specs.Ids.{name_at}
use Rattle.jc_rules.specs.steps.Chains.{target_finding}
use Rattle.jc_rules.proofs.superclass_lost.on_chain.Given as goal

abbrev pub invariant-loop-target : goal.invariant-loop-target
invariant-loop-target l = (front : List ℕ) × (l.fn.before.keys ≡ front ++ l.target-iterator)
    × (l.findings.items ≡ filter_map (target_finding l.sides (name_at l.sides.old l.class)) (map (name_at l.sides.old) front))
