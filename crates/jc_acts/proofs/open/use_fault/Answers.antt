use Rattle.std.proofs.Common.{refl, sym, ◌∙◌}
use Rattle.jc_index.specs.Ids.{name_at}
use Rattle.jc_acts.specs.steps.LookedUp.{member_of}
use Rattle.jc_acts.proofs.UsedAt.{not_accessible, other_kind, final_put, open_use}
use Rattle.jc_acts.proofs.open.use_fault.Goals as goal

pub returns-then-not-accessible : goal.returns-then-not-accessible
returns-then-not-accessible c =
    let o = sym (c.accessible.ensures.value (member_of c.args.table.now c.args.found) (record { below = c.requires.owner; owner = refl; flags = refl })) ∙ c.if-not-accessible.true in
    not_accessible c.args.table.now (name_at c.args.table.now c.args.seat) (name_at c.args.table.now c.args.class) c.args.act (member_of c.args.table.now c.args.found) o

pub returns-then-is_other_kind : goal.returns-then-is_other_kind
returns-then-is_other_kind c =
    let o = sym (c.accessible.ensures.value (member_of c.args.table.now c.args.found) (record { below = c.requires.owner; owner = refl; flags = refl })) ∙ c.if-not-accessible.false in
    other_kind c.args.table.now (name_at c.args.table.now c.args.seat) (name_at c.args.table.now c.args.class) c.args.act (member_of c.args.table.now c.args.found) o
    (sym c.is_other_kind.ensures ∙ c.if-is_other_kind.true)

pub returns-then-is_final_put : goal.returns-then-is_final_put
returns-then-is_final_put c =
    let o = sym (c.accessible.ensures.value (member_of c.args.table.now c.args.found) (record { below = c.requires.owner; owner = refl; flags = refl })) ∙ c.if-not-accessible.false in
    final_put c.args.table.now (name_at c.args.table.now c.args.seat) (name_at c.args.table.now c.args.class) c.args.act (member_of c.args.table.now c.args.found) o
    (sym c.is_other_kind.ensures ∙ c.if-is_other_kind.false) (sym c.is_final_put.ensures ∙ c.if-is_final_put.true)

pub returns : goal.returns
returns c =
    let o = sym (c.accessible.ensures.value (member_of c.args.table.now c.args.found) (record { below = c.requires.owner; owner = refl; flags = refl })) ∙ c.if-not-accessible.false in
    open_use c.args.table.now (name_at c.args.table.now c.args.seat) (name_at c.args.table.now c.args.class) c.args.act (member_of c.args.table.now c.args.found) o
    (sym c.is_other_kind.ensures ∙ c.if-is_other_kind.false) (sym c.is_final_put.ensures ∙ c.if-is_final_put.false)
