use Rattle.std.proofs.Common.{◌∙◌}
use Rattle.jc_index.specs.Ids.{name_at}
use Rattle.jc_index.proofs.Choices.{rivals}
use Rattle.jc_call_lines.proofs.choice.has_rival.Goals as goal

pub returns : goal.returns
returns c = c.is_some.ensures ∙ rivals c.args.table.now (name_at c.args.table.now c.args.class) c.requires.loads c.args.key.now c.args.of c.choose.result c.choose.ensures
