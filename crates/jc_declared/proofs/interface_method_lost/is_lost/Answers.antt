use Rattle.std.proofs.Common.{◌≡◌, true, None, subst, sym}
use Rattle.jc_facts.specs.world.Inheritance.{inherits}
use Rattle.jc_facts.specs.world.Assignment.{is_interface_of}
use Rattle.jc_facts.specs.world.Lookup.{public_method_of_object}
use Rattle.jc_sides.specs.SharedFields.{shared_of}
use Rattle.jc_sides.specs.SharedOf.{name_of}
use Rattle.jc_sides.specs.SidesFields.{worlds}
use Rattle.jc_sides.specs.SidesOf.{SidesOf, AreSides}
use Rattle.jc_sides.proofs.BaseParts.{base_interface_parts}
use Rattle.jc_sides.proofs.Seen.{of_old, of_new, to_old, to_new, loads_before, loads_after, number_before, number_after}
use Rattle.jc_declared.proofs.InterfaceMethodLost.{lost_then, lost_else, apart_now}
use Rattle.jc_declared.proofs.interface_method_lost.is_lost.Goals as goal

pub inherits-requires-clause-loads : goal.inherits-requires-clause-loads
inherits-requires-clause-loads c = loads_before (worlds c.sides.inside) c.args.sides.now c.sides.view_is (shared_of c.class.inside) c.args.class.now c.class.view_is c.requires.shared (base_interface_parts c.args.sides.now (name_of c.args.class.now) c.requires.covered).both

pub inherits-requires-clause-kind : goal.inherits-requires-clause-kind
inherits-requires-clause-kind c = to_old (worlds c.sides.inside) c.args.sides.now c.sides.view_is (shared_of c.class.inside) c.args.class.now c.class.view_is c.requires.shared (λ W x. is_interface_of W x ≡ true) (base_interface_parts c.args.sides.now (name_of c.args.class.now) c.requires.covered).interface

pub inherits-requires-then-inherits-clause-loads : goal.inherits-requires-then-inherits-clause-loads
inherits-requires-then-inherits-clause-loads c = loads_after (worlds c.sides.inside) c.args.sides.now c.sides.view_is (shared_of c.class.inside) c.args.class.now c.class.view_is c.requires.shared (base_interface_parts c.args.sides.now (name_of c.args.class.now) c.requires.covered).both

pub inherits-requires-then-inherits-clause-kind : goal.inherits-requires-then-inherits-clause-kind
inherits-requires-then-inherits-clause-kind c = to_new (worlds c.sides.inside) c.args.sides.now c.sides.view_is (shared_of c.class.inside) c.args.class.now c.class.view_is c.requires.shared (λ W x. is_interface_of W x ≡ true) (base_interface_parts c.args.sides.now (name_of c.args.class.now) c.requires.covered).interface_now

pub inherits-requires-clause-number : goal.inherits-requires-clause-number
inherits-requires-clause-number c = number_before (worlds c.sides.inside) c.args.sides.now c.sides.view_is c.args.key.now c.args.numbers.now c.requires.numbers

pub inherits-requires-then-inherits-clause-number : goal.inherits-requires-then-inherits-clause-number
inherits-requires-then-inherits-clause-number c = number_after (worlds c.sides.inside) c.args.sides.now c.sides.view_is c.args.key.now c.args.numbers.now c.requires.numbers

pub returns-then-inherits : goal.returns-then-inherits
returns-then-inherits c = λ apart.
    let was : public_method_of_object c.sides.inside.old.now c.args.key.now ≡ None = subst (λ (s : SidesOf). public_method_of_object s.old c.args.key.now ≡ None) (sym c.sides.view_is) apart in
    let now : public_method_of_object c.sides.inside.new.now c.args.key.now ≡ None =
    subst (λ (s : SidesOf). public_method_of_object s.new c.args.key.now ≡ None) (sym c.sides.view_is) (apart_now c.args.sides.now (subst AreSides c.sides.view_is c.sides.invariant.sides) c.args.key.now apart) in
    lost_then c.args.sides.now (name_of c.args.class.now) c.args.key.now c.inherits.result c.inherits-then-inherits.result
    (of_old (worlds c.sides.inside) c.args.sides.now c.sides.view_is (shared_of c.class.inside) c.args.class.now c.class.view_is c.requires.shared (λ W x. c.inherits.result ≡ inherits W x c.args.key.now) (c.inherits.ensures was)) c.if-inherits.true
    (of_new (worlds c.sides.inside) c.args.sides.now c.sides.view_is (shared_of c.class.inside) c.args.class.now c.class.view_is c.requires.shared (λ W x. c.inherits-then-inherits.result ≡ inherits W x c.args.key.now) (c.inherits-then-inherits.ensures now))

pub returns-else-inherits : goal.returns-else-inherits
returns-else-inherits c = λ apart.
    let was : public_method_of_object c.sides.inside.old.now c.args.key.now ≡ None = subst (λ (s : SidesOf). public_method_of_object s.old c.args.key.now ≡ None) (sym c.sides.view_is) apart in
    lost_else c.args.sides.now (name_of c.args.class.now) c.args.key.now c.inherits.result
    (of_old (worlds c.sides.inside) c.args.sides.now c.sides.view_is (shared_of c.class.inside) c.args.class.now c.class.view_is c.requires.shared (λ W x. c.inherits.result ≡ inherits W x c.args.key.now) (c.inherits.ensures was)) c.if-inherits.false
