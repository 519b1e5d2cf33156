use Rattle.jc_platform.proofs.EnoughLaws.{enough_links_alike as law}
use Rattle.jc_platform.proofs.enough_links_alike.Goals as goal

pub returns : goal.returns
returns c = law
