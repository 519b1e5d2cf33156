use Rattle.jc_sides.specs.SharedOf.{name_of}
use Rattle.jc_sides.specs.Rules.{on_key}
use Rattle.jc_declared.proofs.ChangedClasses.{steady}
use Rattle.jc_declared.proofs.FieldClosed.{closed}
use Rattle.jc_declared.proofs.field_closed.FieldClosedItemRule.on_key.Goals as goal

pub returns : goal.returns
returns c = closed c.args.sides.now (name_of c.args.class.now) c.args.key.now c.field_closed.result c.broken.result (steady c.args.sides.now (name_of c.args.class.now) c.requires.covered) c.field_closed.ensures (c.broken.ensures (on_key 7 (name_of c.args.class.now) c.args.key.now))

pub field_closed-requires-clause-steady : goal.field_closed-requires-clause-steady
field_closed-requires-clause-steady c = steady c.args.sides.now (name_of c.args.class.now) c.requires.covered
