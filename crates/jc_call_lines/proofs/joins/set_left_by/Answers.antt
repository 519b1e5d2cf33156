use Rattle.std.proofs.Common.{sym, ◌∙◌}
use Rattle.jc_index.specs.Ids.{name_at}
use Rattle.jc_sides.specs.SidesOf.{SidesOf}
use Rattle.jc_call_lines.proofs.JoinLeft.{by_loser, by_other}
use Rattle.jc_call_lines.proofs.joins.set_left_by.Goals as goal

pub returns-then-is_losing : goal.returns-then-is_losing
returns-then-is_losing c =
    let s : SidesOf = c.args.sides.now in
    by_loser s (name_at s.old c.args.id) c.args.flags.now.items c.set_lost.new.flags.items (sym c.is_losing.ensures ∙ c.if-is_losing.true) c.set_lost.ensures

pub returns-else-is_losing : goal.returns-else-is_losing
returns-else-is_losing c =
    let s : SidesOf = c.args.sides.now in
    by_other s (name_at s.old c.args.id) c.args.flags.now.items c.requires.flags (sym c.is_losing.ensures ∙ c.if-is_losing.false)
