use Rattle.std.proofs.Common.{Some, None}
use Rattle.jc_index.specs.Ids.{name_at}
use Rattle.jc_declared.proofs.OwnFlags.{listed}
use Rattle.jc_declared.proofs.own.listed_flags.Goals as goal

pub returns-in-Some : goal.returns-in-Some
returns-in-Some c =
    listed c.args.table.now (name_at c.args.table.now c.args.class) c.facts.result.now c.facts.ensures c.args.key.now c.of_key.result c.of_key.ensures (Some c.in-Some.method.now) c.in-Some.ensures

pub returns-in-None : goal.returns-in-None
returns-in-None c = listed c.args.table.now (name_at c.args.table.now c.args.class) c.facts.result.now c.facts.ensures c.args.key.now c.of_key.result c.of_key.ensures None c.in-None.ensures
