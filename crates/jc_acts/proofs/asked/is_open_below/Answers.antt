use Rattle.std.proofs.Common.{◌≡◌, true, false, sym, ◌∙◌, ap, subst, refl, ◌&&◌}
use Rattle.jc_facts.specs.world.Access.{is_member_open}
use Rattle.jc_index.specs.Ids.{name_at}
use Rattle.jc_acts.specs.steps.LookedUp.{IsInside, member_of, as_usable, open_below}
use Rattle.jc_acts.proofs.asked.is_open_below.Goals as goal

pub returns-then-accessible : goal.returns-then-accessible
returns-then-accessible c =
    let o : is_member_open c.args.table.now (name_at c.args.table.now c.args.seat) (name_at c.args.table.now c.args.class) (member_of c.args.table.now c.in-Ok.found) ≡ true =
    sym (c.accessible.ensures.value (member_of c.args.table.now c.in-Ok.found) (record { below = subst (IsInside c.args.table.now) c.in-Ok.is c.requires.after; owner = refl; flags = refl })) ∙ c.if-accessible.true in
    c.is_as_usable.ensures ∙ sym (ap (λ b. b && as_usable c.args.looked.now.before.flags c.in-Ok.found.flags) o)
    ∙ sym (ap (open_below c.args.table.now (name_at c.args.table.now c.args.seat) (name_at c.args.table.now c.args.class) c.args.looked.now.before.flags) c.in-Ok.is)

pub returns-else-accessible : goal.returns-else-accessible
returns-else-accessible c =
    let o : is_member_open c.args.table.now (name_at c.args.table.now c.args.seat) (name_at c.args.table.now c.args.class) (member_of c.args.table.now c.in-Ok.found) ≡ false =
    sym (c.accessible.ensures.value (member_of c.args.table.now c.in-Ok.found) (record { below = subst (IsInside c.args.table.now) c.in-Ok.is c.requires.after; owner = refl; flags = refl })) ∙ c.if-accessible.false in
    c.if-accessible.false ∙ sym (ap (λ b. b && as_usable c.args.looked.now.before.flags c.in-Ok.found.flags) o)
    ∙ sym (ap (open_below c.args.table.now (name_at c.args.table.now c.args.seat) (name_at c.args.table.now c.args.class) c.args.looked.now.before.flags) c.in-Ok.is)
