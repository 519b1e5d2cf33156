use Rattle.std.proofs.Common.{◌≡◌, ◌&&◌, not, sym, subst, ◌∙◌, Some}
use Rattle.jc_facts.specs.world.Hierarchy.{in_chain}
use Rattle.jc_index.specs.Ids.{name_at, id_of}
use Rattle.jc_index.proofs.Numbers.{find-None}
use Rattle.jc_sides.specs.SidesFields.{worlds}
use Rattle.jc_sides.specs.SidesOf.{SidesOf}
use Rattle.jc_sides.proofs.Seen.{of_same_name}
use Rattle.jc_acts.specs.Touched.{AreSet}
use Rattle.jc_acts.proofs.LostChains.{gone_left}
use Rattle.jc_acts.proofs.lost.set_lost.Goals as goal

pub returns-in-Some : goal.returns-in-Some
returns-in-Some c =
    let s : SidesOf = c.args.sides.now in
    let is : Some c.in-Some.after ≡ id_of s.new (name_at s.old c.args.id) = sym c.in-Some.is ∙ c.new_id.ensures.value in
    subst (λ (u : SidesOf). AreSet u.old (λ y. in_chain u.old (name_at u.old c.args.id) y && not (in_chain s.new (name_at s.old c.args.id) y)) c.args.flags.now.items c.set_left.new.flags.items) c.sides.view_is
    (of_same_name (worlds c.sides.inside) s c.sides.view_is c.args.id c.in-Some.after is
    (λ W x. AreSet c.sides.inside.old.now (λ y. in_chain c.sides.inside.old.now (name_at c.sides.inside.old.now c.args.id) y && not (in_chain W x y)) c.args.flags.now.items c.set_left.new.flags.items) c.set_left.ensures)

pub returns-in-None : goal.returns-in-None
returns-in-None c =
    let s : SidesOf = c.args.sides.now in
    gone_left s (name_at s.old c.args.id) c.args.flags.now.items c.set_chain.new.flags.items (find-None s.new (name_at s.old c.args.id) (sym c.new_id.ensures.value ∙ c.in-None.is))
    (subst (λ (u : SidesOf). AreSet u.old (in_chain u.old (name_at u.old c.args.id)) c.args.flags.now.items c.set_chain.new.flags.items) c.sides.view_is c.set_chain.ensures)
