use Rattle.std.proofs.Common.{arith}
use Rattle.jc_promises.specs.rule.Collisions.{CollisionStands}
use Rattle.jc_facts.specs.Orders.{collision_order}
use Rattle.jc_sides.specs.Rules.{IsCollision}
use Rattle.jc_sides.proofs.Limits.{some_within, none_within}
use Rattle.jc_rules.proofs.AllRules.{collision_rule_before, known_collision}
use Rattle.jc_rules.proofs.ByRule.{start, next, past, whole}
use Rattle.jc_rules.proofs.compare.collisions.Goals as goal

pub loop-rule-init : goal.loop-rule-init
loop-rule-init c =
    let s = c.args.sides.now in
    start collision_order (λ d. d.rule) (CollisionStands s.old s.new) c.args.most 10 (λ d h. (known_collision s.old s.new d h).0) c.new-collisions.result.items c.new-collisions.ensures.items

pub loop-rule-preserved : goal.loop-rule-preserved
loop-rule-preserved c =
    let s = c.args.sides.now in
    next collision_order (λ d. d.rule) (CollisionStands s.old s.new) c.args.most collision_rule_before c.loop-rule.rule c.loop-rule.collisions.items c.loop-rule.invariant c.len.result c.left-room.result (omega (arith, c.len.ensures, c.loop-rule.collisions.ok.0))
    c.left-room.ensures c.in-Some.more.items c.append.new.self.items
    (some_within collision_order (IsCollision c.loop-rule.rule s) c.left-room.result (λ xs. xs.items) c.in_ok-made.made c.in-Some.more c.in-Some.is c.in_ok-made.ensures) c.in_ok-append.ensures.items

pub returns-in_default : goal.returns-in_default
returns-in_default c =
    let s = c.args.sides.now in
    past collision_order (λ d. d.rule) (CollisionStands s.old s.new) c.args.most collision_rule_before c.loop-rule.rule c.loop-rule.collisions.items c.loop-rule.invariant c.len.result c.left-room.result (omega (arith, c.len.ensures, c.loop-rule.collisions.ok.0))
    c.left-room.ensures (none_within collision_order (IsCollision c.loop-rule.rule s) c.left-room.result (λ xs. xs.items) c.in_ok-made.made c.in_default.is c.in_ok-made.ensures)

pub returns : goal.returns
returns c =
    let s = c.args.sides.now in
    whole collision_order (λ d. d.rule) (CollisionStands s.old s.new) c.args.most c.loop-rule.rule (λ d h. let k = known_collision s.old s.new d h in omega (arith, k.1)) c.loop-rule.collisions.items c.loop-rule.invariant
