use Rattle.std.proofs.Common.{sym, ap, subst, ◌∙◌}
use Rattle.jc_attr.specs.steps.Judgements.{JudgementOf, IsRight}
use Rattle.jc_attr.proofs.Judging.{as_judged}
use Rattle.jc_attr.proofs.judged.Judgement.answer.Goals as goal

pub returns-then-is_of : goal.returns-then-is_of
returns-then-is_of c =
    ap (λ (j : JudgementOf). j.fits) c.self.view_is
    ∙ as_judged c.args.self.now c.args.method c.args.name.now c.args.flags c.args.descriptor.now (subst (λ (j : JudgementOf). IsRight j) c.self.view_is c.self.invariant) (sym c.is_of.ensures ∙ c.if-is_of.true)
