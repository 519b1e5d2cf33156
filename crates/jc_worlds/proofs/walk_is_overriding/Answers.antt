use Rattle.jc_worlds.proofs.Relation.{meets_final-exact as law}
use Rattle.jc_worlds.proofs.walk_is_overriding.Goals as goal

pub returns : goal.returns
returns c = law
