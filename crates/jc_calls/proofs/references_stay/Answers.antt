use Rattle.jc_calls.proofs.Kept.{references_stay}
use Rattle.jc_calls.proofs.references_stay.Goals as goal

pub returns : goal.returns
returns c = references_stay
