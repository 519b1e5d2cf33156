use Rattle.std.proofs.Common.{refl}
use Rattle.jc_answers.proofs.Collisions.{same_line}
use Rattle.jc_answers.proofs.laws.printed_as_collisions.Goals as goal

pub returns : goal.returns
returns c = record { text = same_line; json = λ n c. refl }
