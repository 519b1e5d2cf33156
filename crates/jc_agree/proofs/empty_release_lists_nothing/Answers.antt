use Rattle.jc_agree.proofs.NothingListed.{empty_release as law}
use Rattle.jc_agree.proofs.empty_release_lists_nothing.Goals as goal

pub returns : goal.returns
returns c = law
