use Rattle.std.proofs.Common.{◌≡◌, false}
use Rattle.jc_facts.specs.world.Assignment.{is_interface_of}
use Rattle.jc_sides.specs.SharedFields.{shared_of}
use Rattle.jc_sides.specs.SharedOf.{name_of}
use Rattle.jc_sides.specs.SidesFields.{worlds}
use Rattle.jc_sides.proofs.BaseParts.{base_class_parts}
use Rattle.jc_sides.proofs.Seen.{to_old, loads_before, number_before}
use Rattle.jc_declared.proofs.capture_added.is_captured.Goals as goal

pub find_method_by_number-requires-clause-loads : goal.find_method_by_number-requires-clause-loads
find_method_by_number-requires-clause-loads c = loads_before (worlds c.sides.inside) c.args.sides.now c.sides.view_is (shared_of c.class.inside) c.args.class.now c.class.view_is c.requires.shared (base_class_parts c.args.sides.now (name_of c.args.class.now) c.requires.covered).both

pub find_method_by_number-requires-clause-kind : goal.find_method_by_number-requires-clause-kind
find_method_by_number-requires-clause-kind c = to_old (worlds c.sides.inside) c.args.sides.now c.sides.view_is (shared_of c.class.inside) c.args.class.now c.class.view_is c.requires.shared (λ W x. is_interface_of W x ≡ false) (base_class_parts c.args.sides.now (name_of c.args.class.now) c.requires.covered).kind

pub find_method_by_number-requires-clause-number : goal.find_method_by_number-requires-clause-number
find_method_by_number-requires-clause-number c = number_before (worlds c.sides.inside) c.args.sides.now c.sides.view_is c.args.key.now c.args.numbers.now c.requires.numbers
