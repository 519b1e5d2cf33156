use Rattle.jc_worlds.proofs.Depth.{fault_at-deep}
use Rattle.jc_worlds.proofs.fault_is_one.Goals as goal

pub returns : goal.returns
returns c = λ W n x h. fault_at-deep W n h x
