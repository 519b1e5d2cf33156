use Rattle.std.proofs.Common.{◌≡◌, true, false, sym, ap, ◌∙◌}
use Rattle.jc_facts.specs.file.Rules.{is_object_name}
use Rattle.jc_promises.specs.plan.PlannedNames.{least_name, constructors}
use Rattle.jc_drafts.proofs.ConstructorsOf.{of_no_class, of_record}
use Rattle.jc_drafts.proofs.constructor.constructor_of.Goals as goal

pub returns-in_default : goal.returns-in_default
returns-in_default c =
    let other : is_object_name c.args.class.now ≡ false = sym (c.is_object.ensures ∙ ap is_object_name c.as_bytes.ensures) ∙ c.if-is_object.false in
    of_no_class c.args.table.now c.args.class.now other c.in_default.ensures

pub returns-in-Some-first_descriptor : goal.returns-in-Some-first_descriptor
returns-in-Some-first_descriptor c =
    let other : is_object_name c.args.class.now ≡ false = sym (c.is_object.ensures ∙ ap is_object_name c.as_bytes.ensures) ∙ c.if-is_object.false in
    c.as_bytes-in-Some-first_descriptor.ensures ∙ of_record c.args.table.now c.args.class.now other c.in-Some.facts.now _ c.in-Some.ensures (c.in-Some-first_descriptor.ensures ∙ ap (λ ms. least_name (λ d. true) (constructors ms)) c.as_slice.ensures)

pub returns-in-None : goal.returns-in-None
returns-in-None c =
    let other : is_object_name c.args.class.now ≡ false = sym (c.is_object.ensures ∙ ap is_object_name c.as_bytes.ensures) ∙ c.if-is_object.false in
    of_record c.args.table.now c.args.class.now other c.in-Some.facts.now _ c.in-Some.ensures (c.in-None.ensures ∙ ap (λ ms. least_name (λ d. true) (constructors ms)) c.as_slice.ensures)
