use Rattle.std.proofs.Common.{◌∙◌, ◌++◌, ◌∷◌, [], List, ℕ, ap, subst}
use Rattle.jc_facts.specs.declared.class_facts.Member.{Member}
use Rattle.jc_rows.specs.declared.numbering.Numbering.{Numbering}
use Rattle.jc_rows.specs.Keys.{with_keys}
use Rattle.jc_rows.specs.steps.Numbering.{AreNumbers}
use Rattle.jc_rows.proofs.Numbers.{adds_class}
use Rattle.jc_rows.proofs.numbering.add_class.Goals as goal

pub returns : goal.returns
returns c =
    let before : Numbering = c.args.numbering.now in
    let after : Numbering = record { keys = c.add_members-2.new.keys; fields = c.push.new.self; methods = c.push-2.new.self } in
    adds_class before after c.args.class.now c.add_members.new.keys c.in_ok-fields.fields.items c.in_ok-methods.methods.items
    (c.in_ok-fields.ensures.added ∙ ap (λ (ms : List Member). with_keys before.keys ms) c.as_slice.ensures)
    (subst (λ (ms : List Member). AreNumbers c.add_members.new.keys ms c.in_ok-fields.fields.items) c.as_slice.ensures c.in_ok-fields.ensures.numbers)
    (c.in_ok-methods.ensures.added ∙ ap (λ (ms : List Member). with_keys c.add_members.new.keys ms) c.as_slice-2.ensures)
    (subst (λ (ms : List Member). AreNumbers c.add_members-2.new.keys ms c.in_ok-methods.methods.items) c.as_slice-2.ensures c.in_ok-methods.ensures.numbers)
    (c.in_ok-push.ensures.items ∙ ap (λ (ns : List ℕ). before.fields.items ++ (ns ∷ [])) c.from_vec.ensures)
    (c.in_ok-push-2.ensures.items ∙ ap (λ (ns : List ℕ). before.methods.items ++ (ns ∷ [])) c.from_vec-2.ensures)
