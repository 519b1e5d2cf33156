use Rattle.std.proofs.Common.{inl}
use Rattle.jc_commands.proofs.clients.ground_of.Goals as goal

pub returns-in-Ok-clause-made : goal.returns-in-Ok-clause-made
returns-in-Ok-clause-made c = rw c.into_vec.ensures at c.in-Ok.ensures.made

pub returns-in-Err-clause-stopped : goal.returns-in-Err-clause-stopped
returns-in-Err-clause-stopped c = inl (c.in-Err.error, rw c.into_vec.ensures at c.in-Err.ensures.refused, c.unfit.ensures)
