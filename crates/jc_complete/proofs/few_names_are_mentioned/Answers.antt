use Rattle.jc_complete.proofs.FewNames.{few_are_mentioned}
use Rattle.jc_complete.proofs.few_names_are_mentioned.Goals as goal

pub returns : goal.returns
returns c = few_are_mentioned
