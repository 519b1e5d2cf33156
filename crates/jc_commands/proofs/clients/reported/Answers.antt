use Rattle.jc_commands.proofs.clients.reported.Goals as goal

pub returns-in-None-clause-tells : goal.returns-in-None-clause-tells
returns-in-None-clause-tells c = rw c.in-None.is (rw c.as_slice.ensures.value at c.of_answers.ensures.tells)

pub returns-in-Some-clause-tells : goal.returns-in-Some-clause-tells
returns-in-Some-clause-tells c = rw c.in-Some.is (rw (c.as_slice-in-Some.ensures.value, c.as_slice-in-Some-2.ensures.value) at c.of_explained.ensures.tells)
