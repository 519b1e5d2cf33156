use Rattle.jcompat.proofs.Passed.{help_said}
use Rattle.jcompat.proofs.laws.help_is_put.Goals as goal

pub returns : goal.returns
returns c = help_said
