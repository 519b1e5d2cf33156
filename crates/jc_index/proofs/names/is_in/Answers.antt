use Rattle.std.proofs.Common.{◌∙◌}
use Rattle.jc_index.proofs.NumberedNames.{any-among}
use Rattle.jc_index.proofs.names.is_in.Goals as goal

pub returns : goal.returns
returns c = c.contains.ensures ∙ any-among c.args.key c.args.set.now.keys
