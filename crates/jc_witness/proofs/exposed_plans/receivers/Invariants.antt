use Rattle.std.proofs.Common.{◌≡◌, ◌++◌, drop}
use Rattle.jc_promises.specs.plan.Planned.{receivers_exposed}
use Rattle.jc_witness.proofs.exposed_plans.receivers.Given as goal

abbrev pub invariant-loop-exposed : goal.invariant-loop-exposed
invariant-loop-exposed l = l.names.items ++ receivers_exposed l.planner.old l.own (drop l.exposed-index l.acts) ≡ receivers_exposed l.planner.old l.own l.acts
