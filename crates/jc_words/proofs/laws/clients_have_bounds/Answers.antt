use Rattle.jc_words.proofs.Asked.{clients_in_bounds}
use Rattle.jc_words.proofs.laws.clients_have_bounds.Goals as goal

pub returns : goal.returns
returns c = clients_in_bounds
