use Rattle.std.proofs.Common.{◌≡◌, ◌++◌, drop}
use Rattle.jc_desc.specs.Views.{views}
use Rattle.jc_promises.specs.plan.PlannedBodies.{zeros}
use Rattle.jc_drafts.proofs.bodies.push_zeros.Given as goal

abbrev pub invariant-loop-of : goal.invariant-loop-of
invariant-loop-of l = l.steps.items ++ zeros (views (drop l.of-index l.types)) ≡ l.fn.steps.items ++ zeros (views l.types)
