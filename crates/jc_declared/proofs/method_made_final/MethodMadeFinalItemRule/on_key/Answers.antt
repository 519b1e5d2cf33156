use Rattle.std.proofs.Common.{sym, ◌∙◌}
use Rattle.jc_sides.specs.SharedOf.{name_of}
use Rattle.jc_declared.proofs.ChangedClasses.{base_class}
use Rattle.jc_declared.proofs.MethodMadeFinal.{lost_none, lost_some}
use Rattle.jc_declared.proofs.method_made_final.MethodMadeFinalItemRule.on_key.Goals as goal

pub returns-in_err-overridable : goal.returns-in_err-overridable
returns-in_err-overridable c = lost_none c.args.sides.now (name_of c.args.class.now) c.args.key.now (base_class c.args.sides.now (name_of c.args.class.now) c.requires.covered) c.from_residual.result (sym c.in_err-overridable.was ∙ c.made_final.ensures) c.from_residual.ensures

pub returns : goal.returns
returns c = lost_some c.args.sides.now (name_of c.args.class.now) c.args.key.now (base_class c.args.sides.now (name_of c.args.class.now) c.requires.covered) c.in_ok-overridable.overridable c.broken_where.result (sym c.in_ok-overridable.was ∙ c.made_final.ensures) c.broken_where.ensures

pub made_final-requires-clause-covered : goal.made_final-requires-clause-covered
made_final-requires-clause-covered c = base_class c.args.sides.now (name_of c.args.class.now) c.requires.covered
