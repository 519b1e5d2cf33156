use Rattle.std.proofs.Common.{inl}
use Rattle.jc_releases.proofs.releases.table_of.Goals as goal

pub returns-in-Err-clause-stopped : goal.returns-in-Err-clause-stopped
returns-in-Err-clause-stopped c = inl (c.in-Err.error, rw c.into_vec.ensures at c.in-Err.ensures.refused, c.unfit.ensures)
