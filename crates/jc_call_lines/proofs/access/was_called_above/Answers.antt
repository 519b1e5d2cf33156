use Rattle.std.proofs.Common.{◌≡◌, ◌∙◌}
use Rattle.jc_method.specs.Inheriting.{inherits_from}
use Rattle.jc_sides.specs.SharedFields.{shared_of}
use Rattle.jc_sides.specs.SharedOf.{name_of}
use Rattle.jc_sides.specs.SidesFields.{worlds}
use Rattle.jc_sides.proofs.BaseParts.{base_class_parts}
use Rattle.jc_sides.proofs.Seen.{of_old, loads_before}
use Rattle.jc_call_lines.proofs.AccessLines.{of_superinterfaces}
use Rattle.jc_call_lines.proofs.access.was_called_above.Goals as goal

pub inherits_instance-requires-clause-loads : goal.inherits_instance-requires-clause-loads
inherits_instance-requires-clause-loads c = loads_before (worlds c.sides.inside) c.args.sides.now c.sides.view_is (shared_of c.class.inside) c.args.class.now c.class.view_is c.requires.shared (base_class_parts c.args.sides.now (name_of c.args.class.now) c.requires.covered).both

pub returns : goal.returns
returns c =
    of_old (worlds c.sides.inside) c.args.sides.now c.sides.view_is (shared_of c.class.inside) c.args.class.now c.class.view_is c.requires.shared (λ W x. c.inherits_instance.result ≡ inherits_from W x c.args.key.now) c.inherits_instance.ensures
    ∙ of_superinterfaces c.args.sides.now.old (name_of c.args.class.now) c.args.key.now (base_class_parts c.args.sides.now (name_of c.args.class.now) c.requires.covered).kind
