use Rattle.jc_agree.proofs.SameSide.{same_sides as law}
use Rattle.jc_agree.proofs.link_sees_what_check_sees.Goals as goal

pub returns : goal.returns
returns c = law
