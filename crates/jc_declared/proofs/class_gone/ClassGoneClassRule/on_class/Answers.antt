use Rattle.std.proofs.Common.{sym, ap, ◌∙◌}
use Rattle.jc_promises.specs.rule.Bases.{is_class_usable}
use Rattle.jc_sides.specs.SidesOf.{SidesOf}
use Rattle.jc_index.specs.Ids.{name_at}
use Rattle.jc_declared.proofs.ClassGone.{still, gone}
use Rattle.jc_declared.proofs.class_gone.ClassGoneClassRule.on_class.Goals as goal

pub returns-in_default : goal.returns-in_default
returns-in_default c = still c.args.sides.now (name_at c.args.sides.now.old c.args.id) (sym c.in_default.is ∙ c.unusable.ensures)

pub returns : goal.returns
returns c =
    gone c.args.sides.now (name_at c.args.sides.now.old c.args.id) c.is_usable-was_usable.result c.in-Some.error c.broken_where.result
    (c.is_usable-was_usable.ensures ∙ ap (λ (s : SidesOf). is_class_usable s.old (name_at s.old c.args.id)) c.sides.view_is) (sym c.in-Some.is ∙ c.unusable.ensures) c.broken_where.ensures
