use Rattle.std.proofs.Common.{◌≡◌, None, Some, false, ap, subst, ◌∙◌}
use Rattle.jc_facts.specs.world.Assignment.{is_interface_of}
use Rattle.jc_facts.specs.world.Lookup.{method_choices}
use Rattle.jc_sides.specs.BrokenOf.{collided}
use Rattle.jc_sides.specs.SharedFields.{shared_of}
use Rattle.jc_sides.specs.SharedOf.{name_of}
use Rattle.jc_sides.specs.SidesFields.{worlds}
use Rattle.jc_sides.specs.SidesOf.{SidesOf}
use Rattle.jc_sides.proofs.BaseParts.{base_class_parts}
use Rattle.jc_sides.proofs.Seen.{of_new, to_new, loads_after, number_after}
use Rattle.jc_index.specs.Ids.{name_at}
use Rattle.jc_index.specs.Lookups.{IsChoice}
use Rattle.jc_index.specs.Sides.{IsSide}
use Rattle.jc_declared.proofs.ChangedClasses.{base_class}
use Rattle.jc_declared.proofs.CaptureAdded.{no_method, captured}
use Rattle.jc_sides.proofs.BaseParts.{no_interface_now}
use Rattle.jc_declared.proofs.capture_added.CaptureAddedItemRule.on_key.Goals as goal

pub find_method_by_number-requires-clause-loads : goal.find_method_by_number-requires-clause-loads
find_method_by_number-requires-clause-loads c = loads_after (worlds c.sides.inside) c.args.sides.now c.sides.view_is (shared_of c.class.inside) c.args.class.now c.class.view_is c.requires.shared (base_class_parts c.args.sides.now (name_of c.args.class.now) (base_class c.args.sides.now (name_of c.args.class.now) c.requires.covered)).both

pub find_method_by_number-requires-clause-kind : goal.find_method_by_number-requires-clause-kind
find_method_by_number-requires-clause-kind c = to_new (worlds c.sides.inside) c.args.sides.now c.sides.view_is (shared_of c.class.inside) c.args.class.now c.class.view_is c.requires.shared (λ W x. is_interface_of W x ≡ false) (no_interface_now c.args.sides.now (name_of c.args.class.now) (base_class c.args.sides.now (name_of c.args.class.now) c.requires.covered))

pub find_method_by_number-requires-clause-number : goal.find_method_by_number-requires-clause-number
find_method_by_number-requires-clause-number c = number_after (worlds c.sides.inside) c.args.sides.now c.sides.view_is c.args.key.now c.args.numbers.now c.requires.numbers

pub returns-in_err-method : goal.returns-in_err-method
returns-in_err-method c =
    ap (collided 11 (name_of c.args.class.now) c.args.key.now) c.from_residual.ensures
    ∙ no_method c.args.sides.now (name_of c.args.class.now) c.args.key.now (of_new (worlds c.sides.inside) c.args.sides.now c.sides.view_is (shared_of c.class.inside) c.args.class.now c.class.view_is c.requires.shared (λ W x. IsChoice W None (method_choices W x c.args.key.now))
    (subst (λ o. IsChoice c.sides.inside.new.now o (method_choices c.sides.inside.new.now (name_at c.sides.inside.new.now c.class.inside.new) c.args.key.now)) c.in_err-method.was c.find_method_by_number.ensures))

pub returns : goal.returns
returns c =
    captured c.args.sides.now (name_of c.args.class.now) c.args.key.now c.in_ok-method.method c.is_captured-captured.result c.error_of.result c.broken_where.result (base_class c.args.sides.now (name_of c.args.class.now) c.requires.covered)
    (subst (λ (s : SidesOf). IsSide s.new) c.sides.view_is c.sides.invariant.sides.new_side)
    (base_class_parts c.args.sides.now (name_of c.args.class.now) (base_class c.args.sides.now (name_of c.args.class.now) c.requires.covered)).both.loads_now
    (of_new (worlds c.sides.inside) c.args.sides.now c.sides.view_is (shared_of c.class.inside) c.args.class.now c.class.view_is c.requires.shared (λ W x. IsChoice W (Some c.in_ok-method.method) (method_choices W x c.args.key.now))
    (subst (λ o. IsChoice c.sides.inside.new.now o (method_choices c.sides.inside.new.now (name_at c.sides.inside.new.now c.class.inside.new) c.args.key.now)) c.in_ok-method.was c.find_method_by_number.ensures))
    c.is_captured-captured.ensures c.error_of.ensures c.broken_where.ensures

pub is_captured-captured-requires-clause-covered : goal.is_captured-captured-requires-clause-covered
is_captured-captured-requires-clause-covered c = base_class c.args.sides.now (name_of c.args.class.now) c.requires.covered
