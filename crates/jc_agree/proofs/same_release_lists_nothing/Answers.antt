use Rattle.jc_agree.proofs.NothingListed.{same_release as law}
use Rattle.jc_agree.proofs.same_release_lists_nothing.Goals as goal

pub returns : goal.returns
returns c = law
