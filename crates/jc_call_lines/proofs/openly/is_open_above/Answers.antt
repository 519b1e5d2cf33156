use Rattle.std.proofs.Common.{sym, ◌∙◌}
use Rattle.jc_index.specs.Ids.{name_at}
use Rattle.jc_call_lines.specs.steps.Openly.{is_owner_open}
use Rattle.jc_call_lines.proofs.OpenAbove.{all_can, some_hidden, abstract_fails, other_fails, sole_pick}
use Rattle.jc_call_lines.proofs.openly.is_open_above.Goals as goal

pub returns-in_default : goal.returns-in_default
returns-in_default c = all_can c.args.table.now (name_at c.args.table.now c.args.class) c.requires.loads c.args.key.now c.in_default.ensures

pub returns-then-is_abstract : goal.returns-then-is_abstract
returns-then-is_abstract c =
    abstract_fails c.args.table.now (name_at c.args.table.now c.args.class) c.requires.loads c.args.key.now (is_owner_open c.args.table.now)
    (some_hidden c.args.table.now (name_at c.args.table.now c.args.class) c.requires.loads c.args.key.now c.in-Some._hidden c.in-Some.ensures)
    c.in-Some-picked.found c.in-Some-picked.ensures.pick (sym c.is_abstract.ensures ∙ c.if-is_abstract.true)

pub returns-in_default-chosen_beside : goal.returns-in_default-chosen_beside
returns-in_default-chosen_beside c =
    other_fails c.args.table.now (name_at c.args.table.now c.args.class) c.requires.loads c.args.key.now (is_owner_open c.args.table.now)
    (some_hidden c.args.table.now (name_at c.args.table.now c.args.class) c.requires.loads c.args.key.now c.in-Some._hidden c.in-Some.ensures)
    c.count-classes.ensures.side.differ c.in-Some-picked.found c.in_default-chosen_beside.field-0
    c.in-Some-picked.ensures.pick (sym c.is_abstract.ensures ∙ c.if-is_abstract.false) c.in_default-chosen_beside.ensures

pub returns : goal.returns
returns c =
    sole_pick c.args.table.now (name_at c.args.table.now c.args.class) c.requires.loads c.args.key.now c.in-Some-picked.found c.is_nameable.result c.in-Some-picked.ensures.pick (sym c.is_abstract.ensures ∙ c.if-is_abstract.false)
    c.in-None.ensures c.is_nameable.ensures
