use Rattle.jc_answers.proofs.Plain.{client_plain}
use Rattle.jc_answers.proofs.entry.AnswerEntry.value.Goals as goal

pub returns-clause-plain : goal.returns-clause-plain
returns-clause-plain c = client_plain c.args.self.now c.args.number
