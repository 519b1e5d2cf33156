use Rattle.jc_sound.proofs.Itself.{quiet_itself, no_constant, no_capture, no_final}
use Rattle.jc_sound.proofs.nothing_breaks_itself.Goals as goal

pub returns : goal.returns
returns c = λ O valid. (quiet_itself O valid, λ x k. (no_constant O valid x k, no_capture O valid x k, no_final O valid x k))
