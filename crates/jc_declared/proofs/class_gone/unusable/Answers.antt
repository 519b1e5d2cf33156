use Rattle.std.proofs.Common.{◌≡◌, ◌&&◌, true, false, None, Some, sym, ◌∙◌}
use Rattle.jc_facts.specs.Flags.{public_flag}
use Rattle.jc_facts.specs.Names.{Bytes}
use Rattle.jc_facts.specs.world.World.{class_is, World}
use Rattle.jc_facts.specs.world.Modules.{is_visible}
use Rattle.jc_facts.specs.world.Loading.{load_fault}
use Rattle.jc_index.specs.Ids.{name_at, id_of}
use Rattle.jc_sides.specs.SidesFields.{worlds}
use Rattle.jc_sides.proofs.Seen.{of_same_name}
use Rattle.jc_declared.proofs.ClassGone.{absent, unloaded, hidden, usable}
use Rattle.jc_declared.proofs.class_gone.unusable.Goals as goal

pub returns-in_default : goal.returns-in_default
returns-in_default c = sym (absent c.args.sides.now.new (name_at c.args.sides.now.old c.args.id) (sym c.new_id.ensures.value ∙ c.in_default.is))

pub returns-in-Some-fault_at : goal.returns-in-Some-fault_at
returns-in-Some-fault_at c =
    let there : Some c.in-Some.after ≡ id_of c.args.sides.now.new (name_at c.args.sides.now.old c.args.id) = sym c.in-Some.is ∙ c.new_id.ensures.value in
    sym (unloaded c.args.sides.now.new (name_at c.args.sides.now.old c.args.id) c.in-Some-fault_at.error
    (of_same_name (worlds c.sides.inside) c.args.sides.now c.sides.view_is c.args.id c.in-Some.after there (λ W x. load_fault W x ≡ Some c.in-Some-fault_at.error) (sym c.fault_at.ensures ∙ c.in-Some-fault_at.is)))

pub returns-then-is_nameable : goal.returns-then-is_nameable
returns-then-is_nameable c =
    let there : Some c.in-Some.after ≡ id_of c.args.sides.now.new (name_at c.args.sides.now.old c.args.id) = sym c.in-Some.is ∙ c.new_id.ensures.value in
    let on_new : (P : World → Bytes → Type 0) → P c.sides.inside.new.now (name_at c.sides.inside.new.now c.in-Some.after) → P c.args.sides.now.new (name_at c.args.sides.now.old c.args.id) =
    of_same_name (worlds c.sides.inside) c.args.sides.now c.sides.view_is c.args.id c.in-Some.after there
    in
    sym (usable c.args.sides.now.new (name_at c.args.sides.now.old c.args.id) (on_new (λ W x. load_fault W x ≡ None) (sym c.fault_at.ensures ∙ c.in_default-fault_at.is))
    (on_new (λ W x. class_is W (λ d. is_visible W x && public_flag d.flags) x ≡ true) (sym c.is_nameable.ensures ∙ c.if-is_nameable.true)))

pub returns-else-is_nameable : goal.returns-else-is_nameable
returns-else-is_nameable c =
    let there : Some c.in-Some.after ≡ id_of c.args.sides.now.new (name_at c.args.sides.now.old c.args.id) = sym c.in-Some.is ∙ c.new_id.ensures.value in
    let on_new : (P : World → Bytes → Type 0) → P c.sides.inside.new.now (name_at c.sides.inside.new.now c.in-Some.after) → P c.args.sides.now.new (name_at c.args.sides.now.old c.args.id) =
    of_same_name (worlds c.sides.inside) c.args.sides.now c.sides.view_is c.args.id c.in-Some.after there
    in
    sym (hidden c.args.sides.now.new (name_at c.args.sides.now.old c.args.id) (on_new (λ W x. load_fault W x ≡ None) (sym c.fault_at.ensures ∙ c.in_default-fault_at.is))
    (on_new (λ W x. class_is W (λ d. is_visible W x && public_flag d.flags) x ≡ false) (sym c.is_nameable.ensures ∙ c.if-is_nameable.false)))
