use Rattle.jc_desc.proofs.Pools.{pool_is, pool_again}
use Rattle.jc_pool.proofs.laws.steps_read_the_pool.Goals as goal

pub returns : goal.returns
returns c = λ bytes pool rest. ((λ e. pool_is bytes (pool, rest) e), (λ h. pool_again bytes pool rest h))
