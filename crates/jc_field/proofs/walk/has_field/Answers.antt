use Rattle.jc_field.proofs.Steps.{has-here, has-there}
use Rattle.jc_field.proofs.walk.has_field.Goals as goal

pub returns-then-declares : goal.returns-then-declares
returns-then-declares c = has-here c.args.table.now c.requires.side c.args.key.now c.args.interface c.declares.result c.requires.class c.requires.kind c.requires.loads c.declares.ensures c.if-declares.true

pub returns-else-declares : goal.returns-else-declares
returns-else-declares c =
    has-there c.args.table.now c.requires.side c.args.key.now c.args.interface c.interfaces.result.now c.declares.result c.any_declares.result c.requires.class c.requires.kind c.requires.loads c.interfaces.ensures
    c.declares.ensures c.if-declares.false c.any_declares.ensures
