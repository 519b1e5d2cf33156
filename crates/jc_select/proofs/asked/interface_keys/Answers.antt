use Rattle.std.proofs.Common.{◌≡◌, ◌&&◌, ℕ, List, true, sym, subst, ap, ◌∙◌}
use Rattle.std.specs.List.{list_all}
use Rattle.jc_promises.specs.rule.Warnings.{interfaces_from}
use Rattle.jc_sides.specs.SharedOf.{SharedOf, name_of}
use Rattle.jc_sides.specs.SidesOf.{SidesOf, AreSides}
use Rattle.jc_index.specs.Ids.{name_at}
use Rattle.jc_select.specs.steps.Asked.{HaveThose}
use Rattle.jc_select.specs.steps.Changes.{HaveNone}
use Rattle.jc_select.specs.steps.Parts.{AreNamed, stands_at, was_at}
use Rattle.jc_select.proofs.AskedKeys.{parts_alike, parts_apart}
use Rattle.jc_select.proofs.asked.interface_keys.Goals as goal

pub returns-then-stand_alike : goal.returns-then-stand_alike
returns-then-stand_alike c =
    let s : SidesOf = c.args.sides.now in
    let xs = c.in_ok-before.before.items in
    let ys = c.in_ok-after.after.items in
    let are : AreSides s = subst AreSides c.sides.view_is c.sides.invariant.sides in
    let old_from : AreNamed s.old (interfaces_from s.old (name_at s.old c.args.class.now.old)) xs =
    subst (λ (b : SharedOf). AreNamed s.old (interfaces_from s.old (name_at s.old b.old)) xs) c.class.view_is (subst (λ (s : SidesOf). AreNamed s.old (interfaces_from s.old (name_at s.old c.class.inside.old)) xs) c.sides.view_is c.in_ok-before.ensures) in
    let new_from : AreNamed s.new (interfaces_from s.new (name_at s.new c.args.class.now.new)) ys =
    subst (λ (b : SharedOf). AreNamed s.new (interfaces_from s.new (name_at s.new b.new)) ys) c.class.view_is (subst (λ (s : SidesOf). AreNamed s.new (interfaces_from s.new (name_at s.new c.class.inside.new)) ys) c.sides.view_is c.in_ok-after.ensures) in
    let alike : (list_all (stands_at s xs ys) xs && list_all (was_at s xs) ys) ≡ true =
    ap (λ (bs : List ℕ). list_all (stands_at s bs ys) bs && list_all (was_at s bs) ys) (sym c.as_slice.ensures.value)
    ∙ ap (λ (cs : List ℕ). list_all (stands_at s c.as_slice.result.now cs) c.as_slice.result.now && list_all (was_at s c.as_slice.result.now) cs) (sym c.as_slice-2.ensures.value)
    ∙ sym c.stand_alike.ensures ∙ c.if-stand_alike.true in
    parts_alike s are (name_of c.args.class.now) xs ys
    (subst (λ x. AreNamed s.old (interfaces_from s.old x) xs) c.requires.shared.old_name old_from)
    (subst (λ x. AreNamed s.new (interfaces_from s.new x) ys) c.requires.shared.new_name new_from)
    c.args.changes.now c.requires.changes c.new-keys.result.items c.add_changes_of.new.keys.items alike
    (subst (λ (ids : List ℕ). HaveThose c.args.changes.now ids c.new-keys.result.items c.add_changes_of.new.keys.items) c.as_slice-then-stand_alike.ensures.value c.in_ok-add_changes_of.ensures)

pub returns : goal.returns
returns c =
    let s : SidesOf = c.args.sides.now in
    let xs = c.in_ok-before.before.items in
    let ys = c.in_ok-after.after.items in
    let are : AreSides s = subst AreSides c.sides.view_is c.sides.invariant.sides in
    let old_from : AreNamed s.old (interfaces_from s.old (name_at s.old c.args.class.now.old)) xs =
    subst (λ (b : SharedOf). AreNamed s.old (interfaces_from s.old (name_at s.old b.old)) xs) c.class.view_is (subst (λ (s : SidesOf). AreNamed s.old (interfaces_from s.old (name_at s.old c.class.inside.old)) xs) c.sides.view_is c.in_ok-before.ensures) in
    let new_from : AreNamed s.new (interfaces_from s.new (name_at s.new c.args.class.now.new)) ys =
    subst (λ (b : SharedOf). AreNamed s.new (interfaces_from s.new (name_at s.new b.new)) ys) c.class.view_is (subst (λ (s : SidesOf). AreNamed s.new (interfaces_from s.new (name_at s.new c.class.inside.new)) ys) c.sides.view_is c.in_ok-after.ensures) in
    let none_before : HaveNone s.old xs c.new-keys.result.items c.add_each.new.keys.items =
    subst (λ (ids : List ℕ). HaveNone s.old ids c.new-keys.result.items c.add_each.new.keys.items) c.as_slice-3.ensures.value
    (subst (λ (s : SidesOf). HaveNone s.old c.as_slice-3.result.now c.new-keys.result.items c.add_each.new.keys.items) c.sides.view_is c.in_ok-add_each.ensures) in
    let none_after : HaveNone s.new ys c.add_each.new.keys.items c.add_each-2.new.keys.items =
    subst (λ (ids : List ℕ). HaveNone s.new ids c.add_each.new.keys.items c.add_each-2.new.keys.items) c.as_slice-4.ensures.value
    (subst (λ (s : SidesOf). HaveNone s.new c.as_slice-4.result.now c.add_each.new.keys.items c.add_each-2.new.keys.items) c.sides.view_is c.in_ok-add_each-2.ensures) in
    parts_apart s are (name_of c.args.class.now) xs ys
    (subst (λ x. AreNamed s.old (interfaces_from s.old x) xs) c.requires.shared.old_name old_from)
    (subst (λ x. AreNamed s.new (interfaces_from s.new x) ys) c.requires.shared.new_name new_from)
    c.new-keys.result.items c.add_each.new.keys.items c.add_each-2.new.keys.items none_before none_after
