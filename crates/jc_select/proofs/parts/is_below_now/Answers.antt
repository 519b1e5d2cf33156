use Rattle.std.proofs.Common.{◌≡◌, sym, ◌∙◌, ap, subst}
use Rattle.jc_sides.specs.SidesOf.{SidesOf}
use Rattle.jc_index.proofs.Numbers.{id_of-Some}
use Rattle.jc_index.specs.Ids.{name_at}
use Rattle.jc_promises.specs.rule.Warnings.{is_below_other}
use Rattle.jc_select.proofs.Collected.{not_below}
use Rattle.jc_select.proofs.parts.is_below_now.Goals as goal

pub returns-in-None : goal.returns-in-None
returns-in-None c = not_below c.args.sides.now.new (name_at c.args.sides.now.new c.args.class) (name_at c.args.sides.now.old c.args.of) (sym c.in-None.ensures.value)

pub returns-in-Some : goal.returns-in-Some
returns-in-Some c =
    subst (λ (s : SidesOf). c.is_below_other.result ≡ is_below_other s.new (name_at s.new c.args.class) (name_at s.new c.in-Some.of)) c.sides.view_is c.is_below_other.ensures
    ∙ ap (is_below_other c.args.sides.now.new (name_at c.args.sides.now.new c.args.class)) (id_of-Some c.args.sides.now.new (name_at c.args.sides.now.old c.args.of) c.in-Some.of (sym c.in-Some.ensures.value)).1
