use Rattle.std.proofs.Common.{sym, ◌∙◌}
use Rattle.jc_method.proofs.Offering.{inherits_own, inherits_above}
use Rattle.jc_method.proofs.find.inherits_instance.Goals as goal

pub returns-then-offers_itself : goal.returns-then-offers_itself
returns-then-offers_itself c = c.if-offers_itself.true ∙ sym (inherits_own c.args.table.now c.args.key.now c.args.class c.offers_itself.result c.offers_itself.ensures c.if-offers_itself.true)

pub returns-else-offers_itself : goal.returns-else-offers_itself
returns-else-offers_itself c =
    c.is_some.ensures ∙ sym (inherits_above c.args.table.now c.args.key.now c.args.class c.offers_itself.result c.any_candidate.result c.offers_itself.ensures c.if-offers_itself.false c.requires.loads c.any_candidate.ensures)
