use Rattle.jc_pool.proofs.OneOf.{one_of}
use Rattle.jc_pool.proofs.laws.one_pool_or_one_fault.Goals as goal

pub returns : goal.returns
returns c = one_of
