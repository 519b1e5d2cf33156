use Rattle.std.proofs.Common.{sym, subst, ap, ◌∙◌}
use Rattle.jc_promises.specs.rule.Exposed.{is_hidden}
use Rattle.jc_index.specs.Ids.{name_at}
use Rattle.jc_sides.specs.SidesOf.{SidesOf, AreSides}
use Rattle.jc_exposed.proofs.ApartSeats.{none_for}
use Rattle.jc_exposed.proofs.apart.other_seat.Goals as goal

pub returns-then-not-is_hidden_class : goal.returns-then-not-is_hidden_class
returns-then-not-is_hidden_class c =
    none_for c.args.sides.now (subst AreSides c.sides.view_is c.sides.invariant.sides).old_side.differ (name_at c.args.sides.now.old c.args.seat) (name_at c.args.sides.now.old c.args.class)
    (sym (c.is_hidden_class.ensures ∙ ap (λ (u : SidesOf). is_hidden u.old (name_at u.old c.args.class)) c.sides.view_is) ∙ c.if-not-is_hidden_class.true)
