use Rattle.jc_dropped.proofs.Lost.{each_is_lost, each_is_listed}
use Rattle.jc_dropped.proofs.is_dropped_exactly.Goals as goal

pub returns-clause-is_lost : goal.returns-clause-is_lost
returns-clause-is_lost c = each_is_lost

pub returns-clause-is_listed : goal.returns-clause-is_listed
returns-clause-is_listed c = each_is_listed
