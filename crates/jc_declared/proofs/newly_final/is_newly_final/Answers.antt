use Rattle.jc_sides.specs.SharedFields.{shared_of}
use Rattle.jc_sides.specs.SharedOf.{name_of}
use Rattle.jc_sides.specs.SidesFields.{worlds}
use Rattle.jc_sides.proofs.BaseParts.{base_class_parts}
use Rattle.jc_sides.proofs.Seen.{loads_before, loads_after, number_before, number_after}
use Rattle.jc_declared.proofs.newly_final.is_newly_final.Goals as goal

pub is_final_above-requires-clause-loads : goal.is_final_above-requires-clause-loads
is_final_above-requires-clause-loads c = loads_before (worlds c.sides.inside) c.args.sides.now c.sides.view_is (shared_of c.class.inside) c.args.class.now c.class.view_is c.requires.shared (base_class_parts c.args.sides.now (name_of c.args.class.now) c.requires.covered).both

pub is_final_above-requires-then-not-is_final_above-clause-loads : goal.is_final_above-requires-then-not-is_final_above-clause-loads
is_final_above-requires-then-not-is_final_above-clause-loads c = loads_after (worlds c.sides.inside) c.args.sides.now c.sides.view_is (shared_of c.class.inside) c.args.class.now c.class.view_is c.requires.shared (base_class_parts c.args.sides.now (name_of c.args.class.now) c.requires.covered).both

pub is_final_above-requires-clause-number : goal.is_final_above-requires-clause-number
is_final_above-requires-clause-number c = number_before (worlds c.sides.inside) c.args.sides.now c.sides.view_is c.args.key.now c.args.numbers.now c.requires.numbers

pub is_final_above-requires-then-not-is_final_above-clause-number : goal.is_final_above-requires-then-not-is_final_above-clause-number
is_final_above-requires-then-not-is_final_above-clause-number c = number_after (worlds c.sides.inside) c.args.sides.now c.sides.view_is c.args.key.now c.args.numbers.now c.requires.numbers
