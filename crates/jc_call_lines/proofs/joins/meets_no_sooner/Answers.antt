use Rattle.jc_index.specs.Ids.{name_at}
use Rattle.jc_call_lines.proofs.JoinWalk.{none_sooner}
use Rattle.jc_call_lines.proofs.joins.meets_no_sooner.Goals as goal

pub returns : goal.returns
returns c = none_sooner c.args.table.now (name_at c.args.table.now c.args.class) (name_at c.args.table.now c.args.other) (name_at c.args.table.now c.args.target) c.meets_sooner-sooner.result c.meets_sooner-sooner.ensures
