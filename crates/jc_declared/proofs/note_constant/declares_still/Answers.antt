use Rattle.jc_sides.specs.SharedFields.{shared_of}
use Rattle.jc_sides.specs.SharedOf.{name_of}
use Rattle.jc_sides.specs.SidesFields.{worlds}
use Rattle.jc_sides.proofs.BaseParts.{kept_parts}
use Rattle.jc_sides.proofs.Seen.{loads_before, loads_after}
use Rattle.jc_declared.proofs.note_constant.declares_still.Goals as goal

pub field_flags-requires-clause-loads : goal.field_flags-requires-clause-loads
field_flags-requires-clause-loads c = loads_before (worlds c.sides.inside) c.args.sides.now c.sides.view_is (shared_of c.class.inside) c.args.class.now c.class.view_is c.requires.shared (kept_parts c.args.sides.now (name_of c.args.class.now) c.requires.kept)

pub field_flags-requires-then-are_static_final-clause-loads : goal.field_flags-requires-then-are_static_final-clause-loads
field_flags-requires-then-are_static_final-clause-loads c = loads_after (worlds c.sides.inside) c.args.sides.now c.sides.view_is (shared_of c.class.inside) c.args.class.now c.class.view_is c.requires.shared (kept_parts c.args.sides.now (name_of c.args.class.now) c.requires.kept)
