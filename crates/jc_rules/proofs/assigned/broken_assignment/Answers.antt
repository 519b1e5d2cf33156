use Rattle.std.proofs.Common.{ap, ◌∙◌}
use Rattle.jc_facts.specs.Options.{or_else}
use Rattle.jc_promises.specs.rule.Findings.{handed_finding}
use Rattle.jc_index.specs.Ids.{name_at}
use Rattle.jc_rules.proofs.assigned.broken_assignment.Goals as goal

pub returns-in-Some : goal.returns-in-Some
unfolding or_else
returns-in-Some c = λ on is. ap (λ o. or_else o (handed_finding c.args.sides.now.old c.args.sides.now.new on (name_at c.args.sides.now.old c.args.to))) (c.in-Some.ensures on)

pub returns-in-None : goal.returns-in-None
unfolding or_else
returns-in-None c = λ on is. c.handed.ensures on is ∙ ap (λ o. or_else o (handed_finding c.args.sides.now.old c.args.sides.now.new on (name_at c.args.sides.now.old c.args.to))) (c.in-None.ensures on)
