use Rattle.jc_complete.proofs.CompletenessWhole.{completeness as law}
use Rattle.jc_complete.proofs.each_finding_has_its_client.Goals as goal

pub returns : goal.returns
returns c = law
