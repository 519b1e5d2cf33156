use Rattle.jcompat.proofs.OneAnswer.{one_answer as law}
use Rattle.jcompat.proofs.laws.one_answer.Goals as goal

pub returns : goal.returns
returns c = law
