use Rattle.jc_words.proofs.Asked.{number_in_bounds}
use Rattle.jc_words.proofs.laws.numbers_have_bounds.Goals as goal

pub returns : goal.returns
returns c = number_in_bounds
