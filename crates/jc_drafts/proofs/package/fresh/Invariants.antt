use Rattle.std.proofs.Common.{◌≡◌, ◌-◌}
use Rattle.jc_facts.specs.world.Mentioned.{mentioned}
use Rattle.jc_promises.specs.plan.PlannedNames.{first_unused, fresh_package}
use Rattle.jc_drafts.proofs.package.fresh.Given as goal

abbrev pub invariant-loop-number : goal.invariant-loop-number
invariant-loop-number l = first_unused (mentioned l.sides.old l.sides.new) (l.names - l.number) l.number ≡ fresh_package l.sides.old l.sides.new
