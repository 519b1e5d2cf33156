use Rattle.std.proofs.lemmas.Result.{IfOk-weaker}
use Rattle.jc_desc.specs.Names.{is_init_name}
use Rattle.jc_facts.specs.world.Inheritance.{is_final_in_chain}
use Rattle.jc_field.specs.FoundKeys.{HaveFound as HaveFields}
use Rattle.jc_method.specs.FoundKeys.{HaveFound as HaveMethods}
use Rattle.jc_index.specs.Ids.{name_at}
use Rattle.jc_sides.specs.Members.{is_member, HasAll}
use Rattle.jc_sides.specs.declared.members.Members.TheVariants as members
use Rattle.jc_sides.specs.steps.KeySets.{has_member}
use Rattle.jc_sides.specs.SharedFields.{shared_of}
use Rattle.jc_sides.specs.SharedOf.{name_of}
use Rattle.jc_sides.specs.SidesFields.{worlds}
use Rattle.jc_sides.proofs.BaseParts.{kept_parts}
use Rattle.jc_sides.proofs.Seen.{of_old, of_new, loads_before, loads_after}
use Rattle.jc_sides.proofs.MemberKeys.{named_so, inits}
use Rattle.jc_sides.proofs.members.keys_of.Goals as goal

pub found_field_keys-requires-clause-loads : goal.found_field_keys-requires-clause-loads
found_field_keys-requires-clause-loads c = loads_before (worlds c.sides.inside) c.args.sides.now c.sides.view_is (shared_of c.class.inside) c.args.class.now c.class.view_is c.requires.shared (kept_parts c.args.sides.now (name_of c.args.class.now) c.requires.kept)

pub found_method_keys-requires-clause-loads : goal.found_method_keys-requires-clause-loads
found_method_keys-requires-clause-loads c = loads_before (worlds c.sides.inside) c.args.sides.now c.sides.view_is (shared_of c.class.inside) c.args.class.now c.class.view_is c.requires.shared (kept_parts c.args.sides.now (name_of c.args.class.now) c.requires.kept)

pub found_field_keys-requires-in-NewFields-clause-loads : goal.found_field_keys-requires-in-NewFields-clause-loads
found_field_keys-requires-in-NewFields-clause-loads c = loads_after (worlds c.sides.inside) c.args.sides.now c.sides.view_is (shared_of c.class.inside) c.args.class.now c.class.view_is c.requires.shared (kept_parts c.args.sides.now (name_of c.args.class.now) c.requires.kept)

pub found_method_keys-requires-in-NewMethods-clause-loads : goal.found_method_keys-requires-in-NewMethods-clause-loads
found_method_keys-requires-in-NewMethods-clause-loads c = loads_after (worlds c.sides.inside) c.args.sides.now c.sides.view_is (shared_of c.class.inside) c.args.class.now c.class.view_is c.requires.shared (kept_parts c.args.sides.now (name_of c.args.class.now) c.requires.kept)

pub returns-in-OldFields : goal.returns-in-OldFields
returns-in-OldFields c =
    IfOk-weaker c.found_field_keys.result (λ keys. HaveFields c.sides.inside.old.now (name_at c.sides.inside.old.now c.class.inside.old) keys.items) (λ keys. HasAll (is_member c.args.members c.args.sides.now (name_of c.args.class.now)) keys.items)
    (λ keys h. named_so c.args.members members.OldFields c.in-OldFields.is c.args.sides.now (name_of c.args.class.now) keys.items (of_old (worlds c.sides.inside) c.args.sides.now c.sides.view_is (shared_of c.class.inside) c.args.class.now c.class.view_is c.requires.shared (λ W x. HaveFields W x keys.items) h))
    c.found_field_keys.ensures

pub returns-in-OldMethods : goal.returns-in-OldMethods
returns-in-OldMethods c =
    IfOk-weaker c.found_method_keys.result (λ keys. HaveMethods c.sides.inside.old.now (name_at c.sides.inside.old.now c.class.inside.old) keys.items) (λ keys. HasAll (is_member c.args.members c.args.sides.now (name_of c.args.class.now)) keys.items)
    (λ keys h. named_so c.args.members members.OldMethods c.in-OldMethods.is c.args.sides.now (name_of c.args.class.now) keys.items (of_old (worlds c.sides.inside) c.args.sides.now c.sides.view_is (shared_of c.class.inside) c.args.class.now c.class.view_is c.requires.shared (λ W x. HaveMethods W x keys.items) h))
    c.found_method_keys.ensures

pub returns-in-NewFields : goal.returns-in-NewFields
returns-in-NewFields c =
    IfOk-weaker c.found_field_keys-in-NewFields.result (λ keys. HaveFields c.sides.inside.new.now (name_at c.sides.inside.new.now c.class.inside.new) keys.items) (λ keys. HasAll (is_member c.args.members c.args.sides.now (name_of c.args.class.now)) keys.items)
    (λ keys h. named_so c.args.members members.NewFields c.in-NewFields.is c.args.sides.now (name_of c.args.class.now) keys.items (of_new (worlds c.sides.inside) c.args.sides.now c.sides.view_is (shared_of c.class.inside) c.args.class.now c.class.view_is c.requires.shared (λ W x. HaveFields W x keys.items) h))
    c.found_field_keys-in-NewFields.ensures

pub returns-in-OldInitializers : goal.returns-in-OldInitializers
returns-in-OldInitializers c =
    IfOk-weaker c.init_keys.result (λ keys. HasAll (has_member (λ m. is_init_name m.name) c.before-in-OldInitializers.result.now.methods) keys.items) (λ keys. HasAll (is_member c.args.members c.args.sides.now (name_of c.args.class.now)) keys.items)
    (λ keys h. named_so c.args.members members.OldInitializers c.in-OldInitializers.is c.args.sides.now (name_of c.args.class.now) keys.items
    (inits c.args.sides.now (name_of c.args.class.now) c.before-in-OldInitializers.result.now c.before-in-OldInitializers.ensures keys.items h))
    c.init_keys.ensures

pub returns-in-NewMethods : goal.returns-in-NewMethods
returns-in-NewMethods c =
    IfOk-weaker c.found_method_keys-in-NewMethods.result (λ keys. HaveMethods c.sides.inside.new.now (name_at c.sides.inside.new.now c.class.inside.new) keys.items) (λ keys. HasAll (is_member c.args.members c.args.sides.now (name_of c.args.class.now)) keys.items)
    (λ keys h. named_so c.args.members members.NewMethods c.in-NewMethods.is c.args.sides.now (name_of c.args.class.now) keys.items (of_new (worlds c.sides.inside) c.args.sides.now c.sides.view_is (shared_of c.class.inside) c.args.class.now c.class.view_is c.requires.shared (λ W x. HaveMethods W x keys.items) h))
    c.found_method_keys-in-NewMethods.ensures

pub returns-in-NewFinals : goal.returns-in-NewFinals
returns-in-NewFinals c =
    IfOk-weaker c.final_keys.result (λ keys. HasAll (is_final_in_chain c.sides.inside.new.now (name_at c.sides.inside.new.now c.class.inside.new)) keys.items) (λ keys. HasAll (is_member c.args.members c.args.sides.now (name_of c.args.class.now)) keys.items)
    (λ keys h. named_so c.args.members members.NewFinals c.in-NewFinals.is c.args.sides.now (name_of c.args.class.now) keys.items (of_new (worlds c.sides.inside) c.args.sides.now c.sides.view_is (shared_of c.class.inside) c.args.class.now c.class.view_is c.requires.shared (λ W x. HasAll (is_final_in_chain W x) keys.items) h))
    c.final_keys.ensures
