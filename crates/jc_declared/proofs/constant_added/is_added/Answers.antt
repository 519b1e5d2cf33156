use Rattle.std.proofs.Common.{sym, ◌∙◌}
use Rattle.jc_facts.specs.world.Lookup.{field_found}
use Rattle.jc_sides.specs.SharedFields.{shared_of}
use Rattle.jc_sides.specs.SharedOf.{name_of}
use Rattle.jc_sides.specs.SidesFields.{worlds}
use Rattle.jc_sides.proofs.BaseParts.{base_interface_parts}
use Rattle.jc_sides.proofs.Seen.{of_old, of_new, loads_before, loads_after, number_before, number_after}
use Rattle.jc_index.specs.Lookups.{IsAnswer}
use Rattle.jc_declared.proofs.ConstantAdded.{constant_then, constant_else}
use Rattle.jc_declared.proofs.constant_added.is_added.Goals as goal

pub find_field_by_number-requires-clause-loads : goal.find_field_by_number-requires-clause-loads
find_field_by_number-requires-clause-loads c = loads_after (worlds c.sides.inside) c.args.sides.now c.sides.view_is (shared_of c.class.inside) c.args.class.now c.class.view_is c.requires.shared (base_interface_parts c.args.sides.now (name_of c.args.class.now) c.requires.covered).both

pub find_field_by_number-requires-then-is_some-clause-loads : goal.find_field_by_number-requires-then-is_some-clause-loads
find_field_by_number-requires-then-is_some-clause-loads c = loads_before (worlds c.sides.inside) c.args.sides.now c.sides.view_is (shared_of c.class.inside) c.args.class.now c.class.view_is c.requires.shared (base_interface_parts c.args.sides.now (name_of c.args.class.now) c.requires.covered).both

pub find_field_by_number-requires-clause-number : goal.find_field_by_number-requires-clause-number
find_field_by_number-requires-clause-number c = number_after (worlds c.sides.inside) c.args.sides.now c.sides.view_is c.args.key.now c.args.numbers.now c.requires.numbers

pub find_field_by_number-requires-then-is_some-clause-number : goal.find_field_by_number-requires-then-is_some-clause-number
find_field_by_number-requires-then-is_some-clause-number c = number_before (worlds c.sides.inside) c.args.sides.now c.sides.view_is c.args.key.now c.args.numbers.now c.requires.numbers

pub returns-then-is_some : goal.returns-then-is_some
returns-then-is_some c =
    constant_then c.args.sides.now (name_of c.args.class.now) c.args.key.now c.find_field_by_number.result (of_new (worlds c.sides.inside) c.args.sides.now c.sides.view_is (shared_of c.class.inside) c.args.class.now c.class.view_is c.requires.shared (λ W x. IsAnswer W c.find_field_by_number.result (field_found W x c.args.key.now)) c.find_field_by_number.ensures)
    c.find_field_by_number-then-is_some.result c.is_none.result c.requires.covered (of_old (worlds c.sides.inside) c.args.sides.now c.sides.view_is (shared_of c.class.inside) c.args.class.now c.class.view_is c.requires.shared (λ W x. IsAnswer W c.find_field_by_number-then-is_some.result (field_found W x c.args.key.now)) c.find_field_by_number-then-is_some.ensures)
    (sym c.is_some.ensures ∙ c.if-is_some.true) c.is_none.ensures

pub returns-else-is_some : goal.returns-else-is_some
returns-else-is_some c =
    constant_else c.args.sides.now (name_of c.args.class.now) c.args.key.now c.find_field_by_number.result (of_new (worlds c.sides.inside) c.args.sides.now c.sides.view_is (shared_of c.class.inside) c.args.class.now c.class.view_is c.requires.shared (λ W x. IsAnswer W c.find_field_by_number.result (field_found W x c.args.key.now)) c.find_field_by_number.ensures)
    c.is_some.result (sym c.is_some.ensures ∙ c.if-is_some.false) c.is_some.ensures
