use Rattle.std.proofs.Common.{◌≡◌, ap, sym, ◌∙◌}
use Rattle.jc_facts.specs.Names.{is_name_among}
use Rattle.jc_declared.specs.steps.Own.{method_flags_of}
use Rattle.jc_sides.specs.BrokenOf.{found}
use Rattle.jc_sides.specs.Rules.{on_key}
use Rattle.jc_sides.specs.SharedFields.{shared_of}
use Rattle.jc_sides.specs.SharedOf.{name_of}
use Rattle.jc_sides.specs.SidesFields.{worlds}
use Rattle.jc_sides.proofs.BaseParts.{steady_parts}
use Rattle.jc_sides.proofs.Seen.{of_old, of_new, loads_before, loads_after, number_before, number_after}
use Rattle.jc_declared.proofs.ChangedClasses.{steady}
use Rattle.jc_declared.proofs.ConstructorClosed.{found_new, found_super, found_none}
use Rattle.jc_declared.proofs.constructor_closed.ConstructorClosedItemRule.on_key.Goals as goal

pub method_flags-was-requires-clause-loads : goal.method_flags-was-requires-clause-loads
method_flags-was-requires-clause-loads c = loads_before (worlds c.sides.inside) c.args.sides.now c.sides.view_is (shared_of c.class.inside) c.args.class.now c.class.view_is c.requires.shared (steady_parts c.args.sides.now (name_of c.args.class.now) (steady c.args.sides.now (name_of c.args.class.now) c.requires.covered)).both

pub method_flags-now-requires-clause-loads : goal.method_flags-now-requires-clause-loads
method_flags-now-requires-clause-loads c = loads_after (worlds c.sides.inside) c.args.sides.now c.sides.view_is (shared_of c.class.inside) c.args.class.now c.class.view_is c.requires.shared (steady_parts c.args.sides.now (name_of c.args.class.now) (steady c.args.sides.now (name_of c.args.class.now) c.requires.covered)).both

pub method_flags-was-requires-clause-number : goal.method_flags-was-requires-clause-number
method_flags-was-requires-clause-number c = number_before (worlds c.sides.inside) c.args.sides.now c.sides.view_is c.args.key.now c.args.numbers.now c.requires.numbers

pub method_flags-now-requires-clause-number : goal.method_flags-now-requires-clause-number
method_flags-now-requires-clause-number c = number_after (worlds c.sides.inside) c.args.sides.now c.sides.view_is c.args.key.now c.args.numbers.now c.requires.numbers

pub returns-in-Some : goal.returns-in-Some
returns-in-Some c =
    found_new c.args.sides.now (name_of c.args.class.now) c.before-2.result.now c.after.result.now c.before-2.ensures c.after.ensures (steady c.args.sides.now (name_of c.args.class.now) c.requires.covered) c.args.key.now c.method_flags-was.result c.method_flags-now.result
    (of_old (worlds c.sides.inside) c.args.sides.now c.sides.view_is (shared_of c.class.inside) c.args.class.now c.class.view_is c.requires.shared (λ W x. c.method_flags-was.result ≡ method_flags_of W x c.args.key.now) c.method_flags-was.ensures)
    (of_new (worlds c.sides.inside) c.args.sides.now c.sides.view_is (shared_of c.class.inside) c.args.class.now c.class.view_is c.requires.shared (λ W x. c.method_flags-now.result ≡ method_flags_of W x c.args.key.now) c.method_flags-now.ensures)
    c.in-Some.error c.broken_where.result (sym c.in-Some.is ∙ c.new_fault.ensures) c.broken_where.ensures

pub returns-in_err-error : goal.returns-in_err-error
returns-in_err-error c =
    ap (found (on_key 5 (name_of c.args.class.now) c.args.key.now)) c.from_residual.ensures
    ∙ found_none c.args.sides.now (name_of c.args.class.now) c.before-2.result.now c.after.result.now c.before-2.ensures c.after.ensures (steady c.args.sides.now (name_of c.args.class.now) c.requires.covered) c.args.key.now c.method_flags-was.result c.method_flags-now.result
    (of_old (worlds c.sides.inside) c.args.sides.now c.sides.view_is (shared_of c.class.inside) c.args.class.now c.class.view_is c.requires.shared (λ W x. c.method_flags-was.result ≡ method_flags_of W x c.args.key.now) c.method_flags-was.ensures)
    (of_new (worlds c.sides.inside) c.args.sides.now c.sides.view_is (shared_of c.class.inside) c.args.class.now c.class.view_is c.requires.shared (λ W x. c.method_flags-now.result ≡ method_flags_of W x c.args.key.now) c.method_flags-now.ensures)
    (sym c.in_default.is ∙ c.new_fault.ensures) (sym c.in_err-error.was ∙ c.super_fault.ensures)

pub returns : goal.returns
returns c =
    found_super c.args.sides.now (name_of c.args.class.now) c.before-2.result.now c.after.result.now c.before-2.ensures c.after.ensures (steady c.args.sides.now (name_of c.args.class.now) c.requires.covered) c.args.key.now c.method_flags-was.result c.method_flags-now.result
    (of_old (worlds c.sides.inside) c.args.sides.now c.sides.view_is (shared_of c.class.inside) c.args.class.now c.class.view_is c.requires.shared (λ W x. c.method_flags-was.result ≡ method_flags_of W x c.args.key.now) c.method_flags-was.ensures)
    (of_new (worlds c.sides.inside) c.args.sides.now c.sides.view_is (shared_of c.class.inside) c.args.class.now c.class.view_is c.requires.shared (λ W x. c.method_flags-now.result ≡ method_flags_of W x c.args.key.now) c.method_flags-now.ensures)
    c.has-is_base.result c.in_ok-error.error c.broken_where-2.result (sym c.in_default.is ∙ c.new_fault.ensures)
    (sym c.in_ok-error.was ∙ c.super_fault.ensures) (c.has-is_base.ensures ∙ ap (is_name_among c.args.self.now.bases) (c.as_bytes.ensures ∙ ap name_of c.class.view_is) ∙ c.requires.ready c.args.class.now c.requires.shared)
    c.broken_where-2.ensures
