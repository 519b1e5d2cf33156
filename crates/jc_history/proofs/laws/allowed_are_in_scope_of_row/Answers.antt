use Rattle.jc_history.proofs.RowKept.{allowed_are_in_scope}
use Rattle.jc_history.proofs.laws.allowed_are_in_scope_of_row.Goals as goal

pub returns : goal.returns
returns c = allowed_are_in_scope
