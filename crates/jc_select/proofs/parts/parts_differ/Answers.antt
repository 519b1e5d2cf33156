use Rattle.std.proofs.Common.{◌≡◌, ◌&&◌, ◌∙◌, ap, subst}
use Rattle.std.specs.List.{list_all}
use Rattle.jc_sides.specs.SidesOf.{SidesOf, AreSides}
use Rattle.jc_sides.specs.SharedOf.{SharedOf, name_of}
use Rattle.jc_index.specs.Ids.{name_at}
use Rattle.jc_promises.specs.rule.Warnings.{part}
use Rattle.jc_select.specs.steps.Parts.{AreNamed, stays_at, was_at}
use Rattle.jc_select.proofs.Compared.{differ_is}
use Rattle.jc_select.proofs.parts.parts_differ.Goals as goal

pub returns : goal.returns
returns c =
    let s : SidesOf = c.args.sides.now in
    let k = c.args.key.now in
    let xs = c.in_ok-before.before.items in
    let ys = c.in_ok-after.after.items in
    let are : AreSides s = subst AreSides c.sides.view_is c.sides.invariant.sides in
    let old_part : AreNamed s.old (part s.old (name_at s.old c.args.class.now.old) k) xs =
    subst (λ (b : SharedOf). AreNamed s.old (part s.old (name_at s.old b.old) k) xs) c.class.view_is (subst (λ (s : SidesOf). AreNamed s.old (part s.old (name_at s.old c.class.inside.old) k) xs) c.sides.view_is c.in_ok-before.ensures) in
    let new_part : AreNamed s.new (part s.new (name_at s.new c.args.class.now.new) k) ys =
    subst (λ (b : SharedOf). AreNamed s.new (part s.new (name_at s.new b.new) k) ys) c.class.view_is (subst (λ (s : SidesOf). AreNamed s.new (part s.new (name_at s.new c.class.inside.new) k) ys) c.sides.view_is c.in_ok-after.ensures) in
    let agree : c.agree.result ≡ (list_all (stays_at s k xs ys) xs && list_all (was_at s xs) ys) =
    c.agree.ensures ∙ ap (λ bs. list_all (stays_at s k bs c.as_slice-2.result.now) bs && list_all (was_at s bs) c.as_slice-2.result.now) c.as_slice.ensures.value
    ∙ ap (λ cs. list_all (stays_at s k xs cs) xs && list_all (was_at s xs) cs) c.as_slice-2.ensures.value in
    differ_is s are (name_of c.args.class.now) k xs ys c.agree.result
    (subst (λ x. AreNamed s.old (part s.old x k) xs) c.requires.shared.old_name old_part)
    (subst (λ x. AreNamed s.new (part s.new x k) ys) c.requires.shared.new_name new_part)
    agree
