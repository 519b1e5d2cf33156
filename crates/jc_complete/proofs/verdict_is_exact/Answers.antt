use Rattle.jc_complete.proofs.CompletenessWhole.{verdict_is_exact as law}
use Rattle.jc_complete.proofs.verdict_is_exact.Goals as goal

pub returns : goal.returns
returns c = law
