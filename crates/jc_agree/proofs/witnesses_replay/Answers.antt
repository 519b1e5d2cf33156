use Rattle.jc_agree.proofs.Replayed.{witnesses_replay as law}
use Rattle.jc_agree.proofs.witnesses_replay.Goals as goal

pub returns : goal.returns
returns c = law c.names_are_allowed.ensures
