use Rattle.std.proofs.Common.{◌≡◌, ◌≤◌, ◌+◌, drop}
use Rattle.jc_witness.specs.steps.MoreInits.{items_of_acts}
use Rattle.jc_witness.proofs.exposed_plans.count_items.Given as goal

abbrev pub invariant-loop-exposed : goal.invariant-loop-exposed
invariant-loop-exposed l = (l.count + items_of_acts (drop l.exposed-index l.acts) ≡ items_of_acts l.acts) × (l.count ≤ l.exposed-index + l.exposed-index)
