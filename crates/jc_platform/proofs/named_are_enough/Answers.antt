use Rattle.jc_platform.proofs.EnoughLaws.{named_are_enough as law}
use Rattle.jc_platform.proofs.named_are_enough.Goals as goal

pub returns : goal.returns
returns c = law
