use Rattle.std.proofs.Common.{sym, subst}
use Rattle.std.specs.Prelude.{IfSome}
use Rattle.jc_field.specs.FoundKeys.{HaveFound as HaveFields}
use Rattle.jc_field.proofs.Rows.{row_finds as field_row_finds}
use Rattle.jc_method.specs.FoundKeys.{HaveFound as HaveMethods}
use Rattle.jc_method.proofs.Rows.{row_finds as method_row_finds}
use Rattle.jc_index.specs.Ids.{name_at}
use Rattle.jc_table.specs.RowKeys.{keys_of_row}
use Rattle.jc_sides.specs.Members.{is_member, HasAll}
use Rattle.jc_sides.specs.declared.members.Members.{Members}
use Rattle.jc_sides.specs.SharedFields.{shared_of}
use Rattle.jc_sides.specs.SharedOf.{name_of}
use Rattle.jc_sides.specs.SidesFields.{worlds}
use Rattle.jc_sides.proofs.BaseParts.{kept_parts}
use Rattle.jc_sides.proofs.Seen.{of_new, loads_after}
use Rattle.jc_sides.proofs.members.new_row.Goals as goal

pub field_row-requires-clause-loads : goal.field_row-requires-clause-loads
field_row-requires-clause-loads c = loads_after (worlds c.sides.inside) c.args.sides.now c.sides.view_is (shared_of c.class.inside) c.args.class.now c.class.view_is c.requires.shared (kept_parts c.args.sides.now (name_of c.args.class.now) c.requires.kept)

pub method_row-requires-clause-loads : goal.method_row-requires-clause-loads
method_row-requires-clause-loads c = loads_after (worlds c.sides.inside) c.args.sides.now c.sides.view_is (shared_of c.class.inside) c.args.class.now c.class.view_is c.requires.shared (kept_parts c.args.sides.now (name_of c.args.class.now) c.requires.kept)

pub returns-in-NewFields : goal.returns-in-NewFields
returns-in-NewFields c =
    subst (λ (m : Members). IfSome c.field_row.result (λ row. HasAll (is_member m c.args.sides.now (name_of c.args.class.now)) (keys_of_row c.args.sides.now.new row.now))) (sym c.in-NewFields.is)
    (of_new (worlds c.sides.inside) c.args.sides.now c.sides.view_is (shared_of c.class.inside) c.args.class.now c.class.view_is c.requires.shared (λ W x. IfSome c.field_row.result (λ row. HaveFields W x (keys_of_row W row.now)))
    (field_row_finds c.sides.inside.new.now c.sides.invariant.sides.new_side (name_at c.sides.inside.new.now c.class.inside.new) (loads_after (worlds c.sides.inside) c.args.sides.now c.sides.view_is (shared_of c.class.inside) c.args.class.now c.class.view_is c.requires.shared (kept_parts c.args.sides.now (name_of c.args.class.now) c.requires.kept)) c.field_row.result (λ row. row.now) c.field_row.ensures.made c.field_row.ensures.row))

pub returns-in-NewMethods : goal.returns-in-NewMethods
returns-in-NewMethods c =
    subst (λ (m : Members). IfSome c.method_row.result (λ row. HasAll (is_member m c.args.sides.now (name_of c.args.class.now)) (keys_of_row c.args.sides.now.new row.now))) (sym c.in-NewMethods.is)
    (of_new (worlds c.sides.inside) c.args.sides.now c.sides.view_is (shared_of c.class.inside) c.args.class.now c.class.view_is c.requires.shared (λ W x. IfSome c.method_row.result (λ row. HaveMethods W x (keys_of_row W row.now)))
    (method_row_finds c.sides.inside.new.now c.sides.invariant.sides.new_side (name_at c.sides.inside.new.now c.class.inside.new) (loads_after (worlds c.sides.inside) c.args.sides.now c.sides.view_is (shared_of c.class.inside) c.args.class.now c.class.view_is c.requires.shared (kept_parts c.args.sides.now (name_of c.args.class.now) c.requires.kept)) c.method_row.result (λ row. row.now) c.method_row.ensures.made c.method_row.ensures.row))
