use Rattle.jc_answers.proofs.LossWords.{without_end}
use Rattle.jc_answers.proofs.used_text.outcome_words.Goals as goal

pub returns : goal.returns
returns c = without_end c.args.outcome.now _ _ _ _ c.in_ok-line.line.ok.0 c.in_ok-line.ensures c.pop.ensures.items c.pop.ensures.variant
