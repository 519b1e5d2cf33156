use Rattle.jc_sound.proofs.FindingLaws.{finding_is_on_its_subject as law}
use Rattle.jc_sound.proofs.finding_is_on_its_subject.Goals as goal

pub returns : goal.returns
returns c = law
