use Rattle.jc_agree.proofs.SameSide.{both_sides as law}
use Rattle.jc_agree.proofs.clients_sees_what_check_sees.Goals as goal

pub returns : goal.returns
returns c = law
