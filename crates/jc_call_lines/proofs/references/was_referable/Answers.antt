use Rattle.jc_sides.specs.SharedFields.{shared_of}
use Rattle.jc_sides.specs.SharedOf.{name_of}
use Rattle.jc_sides.specs.SidesFields.{worlds}
use Rattle.jc_sides.proofs.BaseParts.{steady_parts}
use Rattle.jc_sides.proofs.Seen.{loads_before}
use Rattle.jc_call_lines.proofs.references.was_referable.Goals as goal

pub finds_referable-requires-clause-loads : goal.finds_referable-requires-clause-loads
finds_referable-requires-clause-loads c = loads_before (worlds c.sides.inside) c.args.sides.now c.sides.view_is (shared_of c.class.inside) c.args.class.now c.class.view_is c.requires.class (steady_parts c.args.sides.now (name_of c.args.class.now) c.requires.steady).both
