use Rattle.jc_field.specs.steps.Fields.{own_found, interfaces_found}
use Rattle.jc_index.specs.Ids.{name_at}
use Rattle.jc_index.proofs.Lookups.{answer_or, answer_else}
use Rattle.jc_field.proofs.walk.here.Goals as goal

pub returns-in-Some : goal.returns-in-Some
returns-in-Some c =
    answer_or c.args.table.now c.in-Some.found (own_found c.args.table.now (name_at c.args.table.now c.args.class) c.args.key.now)
    (interfaces_found c.args.table.now (name_at c.args.table.now c.args.class) c.args.key.now) c.in-Some.ensures

pub returns-in-None : goal.returns-in-None
returns-in-None c =
    answer_else c.args.table.now c.in_interfaces.result (own_found c.args.table.now (name_at c.args.table.now c.args.class) c.args.key.now)
    (interfaces_found c.args.table.now (name_at c.args.table.now c.args.class) c.args.key.now) c.in-None.ensures c.in_interfaces.ensures
