use Rattle.jc_promises.specs.rule.Collisions.{CollisionStands}
use Rattle.jc_facts.specs.Orders.{collision_order}
use Rattle.jc_rules.proofs.ByRule.{Made}
use Rattle.jc_rules.proofs.compare.collisions.Given as goal

abbrev pub invariant-loop-rule : goal.invariant-loop-rule
invariant-loop-rule l = Made collision_order (λ d. d.rule) (CollisionStands l.sides.old l.sides.new) l.most l.rule l.collisions.items
