use Rattle.jc_worlds.proofs.ChoiceLaws.{inherited_are_public as law}
use Rattle.jc_worlds.proofs.inherited_are_public.Goals as goal

pub returns : goal.returns
returns c = law
