use Rattle.jc_pool.proofs.Standing.{pool_stands}
use Rattle.jc_pool.proofs.laws.entries_stand_in_the_file.Goals as goal

pub returns : goal.returns
returns c = pool_stands
