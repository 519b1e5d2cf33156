use Rattle.jc_sides.specs.SharedOf.{name_of}
use Rattle.jc_sides.specs.SharedFields.{shared_of}
use Rattle.jc_sides.specs.SidesFields.{worlds}
use Rattle.jc_sides.proofs.BaseParts.{steady_parts}
use Rattle.jc_sides.proofs.Seen.{loads_before, loads_after}
use Rattle.jc_acts.proofs.plain.closed_to.Goals as goal

pub fault_on-requires-clause-loads : goal.fault_on-requires-clause-loads
fault_on-requires-clause-loads c = loads_before (worlds c.sides.inside) c.args.sides.now c.sides.view_is (shared_of c.class.inside) c.args.class.now c.class.view_is c.requires.class (steady_parts c.args.sides.now (name_of c.args.class.now) c.requires.steady).both

pub fault_on-requires-in-None-clause-loads : goal.fault_on-requires-in-None-clause-loads
fault_on-requires-in-None-clause-loads c = loads_after (worlds c.sides.inside) c.args.sides.now c.sides.view_is (shared_of c.class.inside) c.args.class.now c.class.view_is c.requires.class (steady_parts c.args.sides.now (name_of c.args.class.now) c.requires.steady).both
