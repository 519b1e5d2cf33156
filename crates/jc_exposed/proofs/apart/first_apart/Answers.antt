use Rattle.std.proofs.Common.{◌∙◌}
use Rattle.jc_index.specs.Ids.{name_at}
use Rattle.jc_promises.specs.rule.Apart.{other_seat}
use Rattle.jc_exposed.specs.Apart.{is_other_for}
use Rattle.jc_exposed.proofs.ApartSeats.{only_exposed}
use Rattle.jc_exposed.proofs.apart.first_apart.Goals as goal

pub returns : goal.returns
unfolding other_seat
returns c =
    c.first_other.ensures ∙ c.seats_from-others.ensures.first (is_other_for c.args.sides.now (name_at c.args.sides.now.old c.args.seat) c.args.class) (λ b h. only_exposed c.args.sides.now (name_at c.args.sides.now.old c.args.seat) b c.args.class h)
