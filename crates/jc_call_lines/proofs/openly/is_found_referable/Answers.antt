use Rattle.std.proofs.Common.{sym, ◌∙◌}
use Rattle.jc_index.specs.Ids.{name_at}
use Rattle.jc_call_lines.proofs.Chosen.{unfit_said, front_fits, above_fits}
use Rattle.jc_call_lines.proofs.openly.is_found_referable.Goals as goal

pub returns-then-not-are_flags_fit : goal.returns-then-not-are_flags_fit
returns-then-not-are_flags_fit c = unfit_said c.args.table.now (name_at c.args.table.now c.args.class) c.args.key.now c.args.found c.requires.found c.are_flags_fit.result c.are_flags_fit.ensures c.if-not-are_flags_fit.true

pub returns-then-is_front : goal.returns-then-is_front
returns-then-is_front c =
    front_fits c.args.table.now c.count-classes.ensures.side c.args.class c.requires.class c.requires.loads c.args.key.now c.args.found c.requires.found c.requires.owner c.is_front.result c.is_front.ensures c.if-is_front.true
    (sym c.are_flags_fit.ensures ∙ c.if-not-are_flags_fit.false)

pub returns : goal.returns
returns c =
    above_fits c.args.table.now c.count-classes.ensures.side c.args.class c.requires.class c.requires.loads c.args.key.now c.args.found c.requires.found c.requires.owner c.is_front.result c.are_fit_above.result c.is_front.ensures c.if-is_front.false c.are_fit_above.ensures
