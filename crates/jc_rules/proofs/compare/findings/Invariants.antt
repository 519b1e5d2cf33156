use Rattle.jc_promises.specs.rule.Findings.{Stands}
use Rattle.jc_facts.specs.Orders.{finding_order}
use Rattle.jc_rules.proofs.ByRule.{Made}
use Rattle.jc_rules.proofs.compare.findings.Given as goal

abbrev pub invariant-loop-rule : goal.invariant-loop-rule
invariant-loop-rule l = Made finding_order (λ f. f.rule) (Stands l.sides.old l.sides.new) l.most l.rule l.findings.items
