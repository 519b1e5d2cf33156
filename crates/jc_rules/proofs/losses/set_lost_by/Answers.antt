use Rattle.std.proofs.Common.{◌≡◌, true, false, sym, ap, ◌∙◌}
use Rattle.jc_acts.specs.Touched.{flag_at}
use Rattle.jc_rules.specs.steps.Losses.{loses}
use Rattle.jc_sides.specs.SidesOf.{SidesOf}
use Rattle.jc_index.specs.Ids.{name_at}
use Rattle.jc_rules.proofs.LostFlags.{by_loser, by_other}
use Rattle.jc_rules.proofs.losses.set_lost_by.Goals as goal

pub returns-then-losing-number : goal.returns-then-losing-number
returns-then-losing-number c =
    let s : SidesOf = c.args.sides.now in
    let h : loses s (name_at s.old c.args.id) ≡ true = sym (c.requires.losing.each c.args.id c.requires.class) ∙ ap (flag_at c.args.losing.now) (sym c.number.ensures) ∙ c.if-losing-number.true in
    by_loser s (name_at s.old c.args.id) c.args.flags.now.items c.set_lost.new.flags.items h c.set_lost.ensures

pub returns-else-losing-number : goal.returns-else-losing-number
returns-else-losing-number c =
    let s : SidesOf = c.args.sides.now in
    let h : loses s (name_at s.old c.args.id) ≡ false = sym (c.requires.losing.each c.args.id c.requires.class) ∙ ap (flag_at c.args.losing.now) (sym c.number.ensures) ∙ c.if-losing-number.false in
    by_other s (name_at s.old c.args.id) c.args.flags.now.items c.requires.flags h
