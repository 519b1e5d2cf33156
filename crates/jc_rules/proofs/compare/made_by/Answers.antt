use Rattle.std.proofs.Common.{arith}
use Rattle.jc_promises.specs.rule.Collisions.{CollisionStands}
use Rattle.jc_facts.specs.Orders.{collision_order}
use Rattle.jc_rules.proofs.AllRules.{no_collision}
use Rattle.jc_rules.proofs.ByRule.{none_of}
use Rattle.jc_declared.proofs.CaptureAdded.{is_rule as capture_added}
use Rattle.jc_declared.proofs.ConstantAdded.{is_rule as constant_added}
use Rattle.jc_declared.proofs.FinalAdded.{is_rule as final_added}
use Rattle.jc_rules.proofs.compare.made_by.Goals as goal

pub by_items-requires-clause-rule : goal.by_items-requires-clause-rule
by_items-requires-clause-rule c = constant_added

pub by_items-requires-in-11-clause-rule : goal.by_items-requires-in-11-clause-rule
by_items-requires-in-11-clause-rule c = capture_added

pub by_items-requires-in-12-clause-rule : goal.by_items-requires-in-12-clause-rule
by_items-requires-in-12-clause-rule c = final_added

pub returns-in_default : goal.returns-in_default
returns-in_default c =
    let s = c.args.sides.now in
    none_of collision_order (λ d. d.rule) (CollisionStands s.old s.new) c.args.most c.args.rule (no_collision s.old s.new c.args.rule (λ a b. omega (arith, a, b))) c.new.result.items c.new.ensures.items
