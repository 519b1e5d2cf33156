use Rattle.jc_answers.proofs.UsedPlain.{explained_plain}
use Rattle.jc_answers.proofs.used_entry.PairAnswerExplainedEntry.value.Goals as goal

pub returns-clause-plain : goal.returns-clause-plain
returns-clause-plain c = explained_plain c.args.self.now c.args.number
