use Rattle.jc_platform.proofs.EnoughLaws.{enough_allows as law}
use Rattle.jc_platform.proofs.enough_allows.Goals as goal

pub returns : goal.returns
returns c = law
