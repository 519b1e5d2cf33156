use Rattle.jc_index.specs.Ids.{name_at}
use Rattle.jc_call_lines.proofs.Chosen.{interface_said, by_owner}
use Rattle.jc_call_lines.proofs.openly.is_found_open.Goals as goal

pub returns-then-is_of_interface : goal.returns-then-is_of_interface
returns-then-is_of_interface c =
    interface_said c.args.table.now (name_at c.args.table.now c.args.class) c.args.key.now c.is_of_interface.result c.are_owners_open.result c.is_of_interface.ensures c.if-is_of_interface.true c.are_owners_open.ensures

pub returns : goal.returns
returns c =
    by_owner c.args.table.now (name_at c.args.table.now c.args.class) c.requires.loads c.args.key.now c.args.found c.requires.found c.is_of_interface.result c.is_said_open.result
    c.is_of_interface.ensures c.if-is_of_interface.false c.is_said_open.ensures
