use Rattle.jc_index.specs.Ids.{name_at}
use Rattle.jc_call_lines.proofs.Chosen.{nothing_found}
use Rattle.jc_call_lines.proofs.openly.are_choices_open.Goals as goal

pub returns-in-None : goal.returns-in-None
returns-in-None c = nothing_found c.args.table.now (name_at c.args.table.now c.args.class) c.args.key.now c.in-None.ensures
