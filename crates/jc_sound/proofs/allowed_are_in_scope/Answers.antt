use Rattle.jc_sound.proofs.ScopeLaws.{allowed_are_in_scope as law}
use Rattle.jc_sound.proofs.allowed_are_in_scope.Goals as goal

pub returns : goal.returns
returns c = law
