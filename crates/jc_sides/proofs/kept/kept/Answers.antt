use Rattle.std.proofs.Common.{sym, refl, ◌∙◌, subst}
use Rattle.jc_promises.specs.rule.Bases.{is_kept}
use Rattle.jc_index.specs.Ids.{name_at}
use Rattle.jc_sides.specs.SharedOf.{IsWhere}
use Rattle.jc_sides.specs.SidesFields.{worlds}
use Rattle.jc_sides.proofs.KeptOnSides.{unusable, absent, unusable_now, stays}
use Rattle.jc_sides.proofs.kept.kept.Goals as goal

pub returns-then-not-is_usable : goal.returns-then-not-is_usable
returns-then-not-is_usable c = unusable (worlds c.sides.inside) c.args.sides.now c.sides.view_is c.args.id (sym c.is_usable.ensures ∙ c.if-not-is_usable.true)

pub returns-in_err-after : goal.returns-in_err-after
returns-in_err-after c =
    subst (IsWhere (is_kept c.args.sides.now.old c.args.sides.now.new (name_at c.args.sides.now.old c.args.id)) c.args.sides.now (name_at c.args.sides.now.old c.args.id)) (sym c.from_residual.ensures)
    (absent (worlds c.sides.inside) c.args.sides.now c.sides.view_is c.args.id c.in_err-after.ensures.value)

pub returns-then-is_usable : goal.returns-then-is_usable
returns-then-is_usable c =
    stays (worlds c.sides.inside) c.args.sides.now c.sides.view_is c.args.id c.in_ok-after.after c.in_ok-after.ensures.value c.facts.result.now c.facts.ensures _ refl refl refl c.requires (sym c.is_usable.ensures ∙ c.if-not-is_usable.false)
    (sym c.is_usable-2.ensures ∙ c.if-is_usable.true)

pub returns-else-is_usable : goal.returns-else-is_usable
returns-else-is_usable c = unusable_now (worlds c.sides.inside) c.args.sides.now c.sides.view_is c.args.id c.in_ok-after.after c.in_ok-after.ensures.value (sym c.is_usable-2.ensures ∙ c.if-is_usable.false)
