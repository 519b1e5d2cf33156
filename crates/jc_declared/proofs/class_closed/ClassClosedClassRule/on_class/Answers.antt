use Rattle.std.proofs.Common.{◌≡◌, sym, ◌∙◌, subst, None}
use Rattle.jc_sides.specs.Rules.{class_finding}
use Rattle.jc_sides.specs.SharedOf.{name_of}
use Rattle.jc_sides.specs.SidesFields.{worlds}
use Rattle.jc_sides.specs.SidesOf.{SidesOf}
use Rattle.jc_index.specs.Ids.{name_at}
use Rattle.jc_declared.proofs.ClassClosed.{of_platform, unkept, closed}
use Rattle.jc_declared.proofs.class_closed.ClassClosedClassRule.on_class.Goals as goal

pub returns-then-in_platform : goal.returns-then-in_platform
returns-then-in_platform c =
    subst (λ (s : SidesOf). None ≡ class_finding 2 s (name_at s.old c.args.id)) c.sides.view_is
    (of_platform (worlds c.sides.inside) c.sides.invariant.sides (name_at c.sides.inside.old.now c.args.id) (sym c.in_platform.ensures ∙ c.if-in_platform.true))

pub returns-in_default : goal.returns-in_default
returns-in_default c = unkept c.args.sides.now (name_at c.args.sides.now.old c.args.id) c.in_default.ensures

pub returns : goal.returns
returns c =
    closed c.args.sides.now (name_at c.args.sides.now.old c.args.id) (name_of c.in-Some.class) c.in_ok-closed.closed c.before-2.result.now c.act_on-act.result c.broken_where.result c.in-Some.ensures.1 c.in_ok-closed.ensures
    c.before-2.ensures c.act_on-act.ensures c.broken_where.ensures
