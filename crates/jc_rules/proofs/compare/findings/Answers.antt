use Rattle.std.proofs.Common.{arith}
use Rattle.jc_promises.specs.rule.Findings.{Stands}
use Rattle.jc_facts.specs.Orders.{finding_order}
use Rattle.jc_sides.specs.Rules.{IsFinding}
use Rattle.jc_sides.proofs.Subjects.{rule_before}
use Rattle.jc_sides.proofs.Limits.{some_within, none_within}
use Rattle.jc_rules.proofs.AllRules.{known_finding}
use Rattle.jc_rules.proofs.ByRule.{start, next, past, whole}
use Rattle.jc_rules.proofs.compare.findings.Goals as goal

pub loop-rule-init : goal.loop-rule-init
loop-rule-init c =
    let s = c.args.sides.now in
    start finding_order (λ f. f.rule) (Stands s.old s.new) c.args.most 1 (λ f h. (known_finding s.old s.new f h).0) c.new-findings.result.items c.new-findings.ensures.items

pub loop-rule-preserved : goal.loop-rule-preserved
loop-rule-preserved c =
    let s = c.args.sides.now in
    next finding_order (λ f. f.rule) (Stands s.old s.new) c.args.most rule_before c.loop-rule.rule c.loop-rule.findings.items c.loop-rule.invariant c.len.result c.left-room.result (omega (arith, c.len.ensures, c.loop-rule.findings.ok.0))
    c.left-room.ensures c.in-Some.more.items c.append.new.self.items
    (some_within finding_order (IsFinding c.loop-rule.rule s) c.left-room.result (λ xs. xs.items) c.in_ok-found.found c.in-Some.more c.in-Some.is c.in_ok-found.ensures) c.in_ok-append.ensures.items

pub returns-in_default : goal.returns-in_default
returns-in_default c =
    let s = c.args.sides.now in
    past finding_order (λ f. f.rule) (Stands s.old s.new) c.args.most rule_before c.loop-rule.rule c.loop-rule.findings.items c.loop-rule.invariant c.len.result c.left-room.result (omega (arith, c.len.ensures, c.loop-rule.findings.ok.0))
    c.left-room.ensures (none_within finding_order (IsFinding c.loop-rule.rule s) c.left-room.result (λ xs. xs.items) c.in_ok-found.found c.in_default.is c.in_ok-found.ensures)

pub returns : goal.returns
returns c =
    let s = c.args.sides.now in
    whole finding_order (λ f. f.rule) (Stands s.old s.new) c.args.most c.loop-rule.rule (λ f h. let k = known_finding s.old s.new f h in omega (arith, k.1)) c.loop-rule.findings.items c.loop-rule.invariant
