use Rattle.std.proofs.Common.{[], subst}
use Rattle.std.specs.List.{cons_option}
use Rattle.jc_acts.specs.Touched.{flag_at}
use Rattle.jc_desc.specs.Classes.{some_type_names}
use Rattle.jc_exposed.specs.Named.{Lists}
use Rattle.jc_exposed.proofs.NamedClasses.{named_found}
use Rattle.jc_exposed.proofs.named.classes_named.Goals as goal

pub returns : goal.returns
returns c =
    named_found c.args.table.now (flag_at c.args.wanted.now) c.args.descriptor.now c.new-ids.result.items c.push_some.new.items.items c.append.new.self.items (cons_option c.class_of_some.result []) c.in_ok-classes_of_method.field-0.items c.new-ids.ensures.items
    c.in_ok-push_some.ensures c.in_ok-append.ensures.items (subst (λ o. Lists c.args.table.now (flag_at c.args.wanted.now) (λ x. some_type_names x o) (cons_option c.class_of_some.result [])) c.field_type.ensures.exact c.class_of_some.ensures) c.in_ok-classes_of_method.ensures
