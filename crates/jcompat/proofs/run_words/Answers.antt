use Rattle.jcompat.proofs.Program.{idle_answers}
use Rattle.jcompat.proofs.run_words.Goals as goal

pub returns-in-Some-clause-answers : goal.returns-in-Some-clause-answers
returns-in-Some-clause-answers g c = rw c.in-Some.is (idle_answers _ _ _ _ _ c.in-Err.ensures.no_memory)
