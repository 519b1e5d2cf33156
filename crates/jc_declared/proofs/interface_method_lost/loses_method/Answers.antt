use Rattle.std.proofs.Common.{◌≡◌, true, false, not, is_some, refl, sym, ap, subst, ◌∙◌}
use Rattle.jc_desc.specs.Names.{is_initializer_name}
use Rattle.jc_facts.specs.world.Lookup.{public_method_of_object}
use Rattle.jc_declared.specs.steps.Methods.{loses}
use Rattle.jc_sides.specs.SharedOf.{name_of}
use Rattle.jc_sides.specs.SidesOf.{SidesOf}
use Rattle.jc_declared.proofs.InterfaceMethodLost.{lost_apart}
use Rattle.jc_declared.proofs.interface_method_lost.loses_method.Goals as goal

pub returns-then-is_initializer : goal.returns-then-is_initializer
returns-then-is_initializer c =
    lost_apart c.args.sides.now (name_of c.args.class.now) c.args.key.now true (loses c.args.sides.now (name_of c.args.class.now) c.args.key.now) (is_some (public_method_of_object c.args.sides.now.old c.args.key.now))
    (ap not (sym (c.is_initializer.ensures ∙ ap is_initializer_name c.as_bytes.ensures) ∙ c.if-is_initializer.true)) (λ apart. refl) refl

pub returns-else-is_lost : goal.returns-else-is_lost
returns-else-is_lost c =
    c.if-is_lost.false
    ∙ lost_apart c.args.sides.now (name_of c.args.class.now) c.args.key.now false false (is_some (public_method_of_object c.args.sides.now.old c.args.key.now))
    (ap not (sym (c.is_initializer.ensures ∙ ap is_initializer_name c.as_bytes.ensures) ∙ c.if-is_initializer.false)) (λ apart. sym c.if-is_lost.false ∙ c.is_lost.ensures apart) refl

pub returns-then-is_lost : goal.returns-then-is_lost
returns-then-is_lost c =
    lost_apart c.args.sides.now (name_of c.args.class.now) c.args.key.now false true c.is_of_object.result
    (ap not (sym (c.is_initializer.ensures ∙ ap is_initializer_name c.as_bytes.ensures) ∙ c.if-is_initializer.false)) (λ apart. sym c.if-is_lost.true ∙ c.is_lost.ensures apart)
    (subst (λ (s : SidesOf). c.is_of_object.result ≡ is_some (public_method_of_object s.old c.args.key.now)) c.sides.view_is c.is_of_object.ensures)
