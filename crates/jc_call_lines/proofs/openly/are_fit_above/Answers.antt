use Rattle.std.proofs.Common.{sym, ◌∙◌}
use Rattle.jc_index.specs.Ids.{name_at}
use Rattle.jc_calls.specs.Handles.{is_referable}
use Rattle.jc_call_lines.proofs.OpenAbove.{all_fit, some_unfit, abstract_fails, other_fails, sole_fits}
use Rattle.jc_call_lines.proofs.openly.are_fit_above.Goals as goal

pub returns-in_default : goal.returns-in_default
returns-in_default c = all_fit c.args.table.now (name_at c.args.table.now c.args.class) c.requires.loads c.args.key.now c.in_default.ensures

pub returns-then-is_abstract : goal.returns-then-is_abstract
returns-then-is_abstract c =
    abstract_fails c.args.table.now (name_at c.args.table.now c.args.class) c.requires.loads c.args.key.now is_referable
    (some_unfit c.args.table.now (name_at c.args.table.now c.args.class) c.requires.loads c.args.key.now c.in-Some._unfit c.in-Some.ensures)
    c.in-Some-picked.found c.in-Some-picked.ensures.pick (sym c.is_abstract.ensures ∙ c.if-is_abstract.true)

pub returns-in_default-chosen_beside : goal.returns-in_default-chosen_beside
returns-in_default-chosen_beside c =
    other_fails c.args.table.now (name_at c.args.table.now c.args.class) c.requires.loads c.args.key.now is_referable
    (some_unfit c.args.table.now (name_at c.args.table.now c.args.class) c.requires.loads c.args.key.now c.in-Some._unfit c.in-Some.ensures)
    c.count-classes.ensures.side.differ c.in-Some-picked.found c.in_default-chosen_beside.field-0
    c.in-Some-picked.ensures.pick (sym c.is_abstract.ensures ∙ c.if-is_abstract.false) c.in_default-chosen_beside.ensures

pub returns : goal.returns
returns c =
    sole_fits c.args.table.now (name_at c.args.table.now c.args.class) c.requires.loads c.args.key.now c.in-Some-picked.found c.are_flags_fit.result c.in-Some-picked.ensures.pick (sym c.is_abstract.ensures ∙ c.if-is_abstract.false)
    c.in-None.ensures c.are_flags_fit.ensures
