use Rattle.jc_sides.specs.SharedOf.{name_of}
use Rattle.jc_declared.proofs.ChangedClasses.{base_interface}
use Rattle.jc_declared.proofs.InterfaceMethodLost.{lost}
use Rattle.jc_declared.proofs.interface_method_lost.InterfaceMethodLostItemRule.on_key.Goals as goal

pub returns : goal.returns
returns c = lost c.args.sides.now (name_of c.args.class.now) c.args.key.now (base_interface c.args.sides.now (name_of c.args.class.now) c.requires.covered) c.loses_method-lost.result c.broken_where.result c.loses_method-lost.ensures c.broken_where.ensures

pub loses_method-lost-requires-clause-covered : goal.loses_method-lost-requires-clause-covered
loses_method-lost-requires-clause-covered c = base_interface c.args.sides.now (name_of c.args.class.now) c.requires.covered
