use Rattle.std.proofs.Common.{◌∙◌}
use Rattle.jc_index.proofs.NumberedNames.{position-place}
use Rattle.jc_index.proofs.names.number_in.Goals as goal

pub returns : goal.returns
returns c = c.get_index_of.ensures.index ∙ position-place c.args.key c.args.set.now.keys
