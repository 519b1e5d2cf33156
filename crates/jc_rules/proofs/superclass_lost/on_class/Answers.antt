use Rattle.std.proofs.Common.{List, sym, subst, ◌∙◌}
use Rattle.jc_facts.specs.declared.finding.Finding.{Finding}
use Rattle.jc_facts.specs.Exactly.{HasExactly}
use Rattle.jc_facts.specs.Orders.{finding_order}
use Rattle.jc_index.specs.Ids.{name_at}
use Rattle.jc_sides.specs.SidesOf.{SidesOf}
use Rattle.jc_rules.specs.steps.Chains.{HasChain, OfChain}
use Rattle.jc_rules.proofs.SuperclassLost.{lossless_chain}
use Rattle.jc_rules.proofs.superclass_lost.on_class.Goals as goal

pub returns-then-not-has_lost : goal.returns-then-not-has_lost
returns-then-not-has_lost c =
    subst (λ (fs : List Finding). HasExactly finding_order (OfChain c.args.sides.now (name_at c.args.sides.now.old c.args.class)) fs) (sym c.new.ensures.items)
    (lossless_chain c.args.sides.now (name_at c.args.sides.now.old c.args.class) (sym c.has_lost.ensures ∙ c.if-not-has_lost.true))

pub on_chain-requires-clause-before : goal.on_chain-requires-clause-before
on_chain-requires-clause-before c = subst (λ (u : SidesOf). HasChain u.old (name_at u.old c.args.class) c.in_ok-before.before) c.sides.view_is c.in_ok-before.ensures
