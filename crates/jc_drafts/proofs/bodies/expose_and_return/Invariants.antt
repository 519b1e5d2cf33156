use Rattle.std.proofs.Common.{◌≡◌, ◌≤◌, ◌++◌, drop}
use Rattle.jc_promises.specs.plan.PlannedBodies.{exposed_steps}
use Rattle.jc_drafts.proofs.bodies.expose_and_return.Given as goal

abbrev pub invariant-loop-exposed : goal.invariant-loop-exposed
invariant-loop-exposed l = (l.steps.items ++ exposed_steps l.number (drop l.exposed-index l.acts) ≡ exposed_steps 0 l.acts) × (l.number ≤ l.exposed-index)
