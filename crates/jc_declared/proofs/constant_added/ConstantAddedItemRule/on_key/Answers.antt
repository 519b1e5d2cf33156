use Rattle.jc_sides.specs.SharedOf.{name_of}
use Rattle.jc_declared.proofs.ChangedClasses.{base_interface}
use Rattle.jc_declared.proofs.ConstantAdded.{constant}
use Rattle.jc_declared.proofs.constant_added.ConstantAddedItemRule.on_key.Goals as goal

pub returns : goal.returns
returns c = constant c.args.sides.now (name_of c.args.class.now) c.args.key.now c.is_added-added.result c.broken_where.result c.is_added-added.ensures c.broken_where.ensures

pub is_added-added-requires-clause-covered : goal.is_added-added-requires-clause-covered
is_added-added-requires-clause-covered c = base_interface c.args.sides.now (name_of c.args.class.now) c.requires.covered
