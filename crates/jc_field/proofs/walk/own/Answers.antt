use Rattle.jc_field.proofs.Steps.{own-Some, own-None}
use Rattle.jc_field.proofs.walk.own.Goals as goal

pub returns-in-Some : goal.returns-in-Some
returns-in-Some c = own-Some c.args.table.now c.args.class c.args.key.now c.facts.result.now c.in-Some.field.now c.requires c.facts.ensures c.in-Some.ensures

pub returns-in-None : goal.returns-in-None
returns-in-None c = own-None c.args.table.now c.args.class c.args.key.now c.facts.result.now c.facts.ensures c.in-None.ensures
