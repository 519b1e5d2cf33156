use Rattle.jc_index.specs.Ids.{name_at}
use Rattle.jc_call_lines.proofs.Chosen.{nothing_referable}
use Rattle.jc_call_lines.proofs.openly.finds_referable.Goals as goal

pub returns-in-None : goal.returns-in-None
returns-in-None c = nothing_referable c.args.table.now (name_at c.args.table.now c.args.class) c.args.key.now c.in-None.ensures
