use Rattle.std.proofs.Common.{sym, ◌∙◌}
use Rattle.jc_sides.specs.SharedOf.{name_of}
use Rattle.jc_declared.proofs.ChangedClasses.{base_class}
use Rattle.jc_declared.proofs.FinalAdded.{met_none, met_some}
use Rattle.jc_declared.proofs.final_added.FinalAddedItemRule.on_key.Goals as goal

pub returns-in_err-overridable : goal.returns-in_err-overridable
returns-in_err-overridable c = met_none c.args.sides.now (name_of c.args.class.now) c.args.key.now (base_class c.args.sides.now (name_of c.args.class.now) c.requires.covered) c.from_residual.result (sym c.in_err-overridable.was ∙ c.made_final.ensures) c.from_residual.ensures

pub returns : goal.returns
returns c = met_some c.args.sides.now (name_of c.args.class.now) c.args.key.now (base_class c.args.sides.now (name_of c.args.class.now) c.requires.covered) c.in_ok-overridable.overridable c.broken_where.result (sym c.in_ok-overridable.was ∙ c.made_final.ensures) c.broken_where.ensures

pub made_final-requires-clause-covered : goal.made_final-requires-clause-covered
made_final-requires-clause-covered c = base_class c.args.sides.now (name_of c.args.class.now) c.requires.covered
