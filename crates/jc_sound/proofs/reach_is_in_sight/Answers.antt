use Rattle.jc_sound.proofs.ReachInSight.{reach_is_in_sight as law}
use Rattle.jc_sound.proofs.reach_is_in_sight.Goals as goal

pub returns : goal.returns
returns c = law
