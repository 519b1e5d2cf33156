use Rattle.std.proofs.Common.{◌≡◌}
use Rattle.jc_sides.specs.SharedFields.{shared_of}
use Rattle.jc_sides.specs.SidesFields.{worlds}
use Rattle.jc_sides.proofs.Seen.{of_old}
use Rattle.jc_exposed.specs.Rows.{exposes_in}
use Rattle.jc_exposed.proofs.exposed.is_seen_by.Goals as goal

pub returns : goal.returns
returns c =
    of_old (worlds c.sides.inside) c.args.sides.now c.sides.view_is (shared_of c.seat.inside) c.args.seat.now c.seat.view_is c.requires.seat
    (λ V y. c.is_in.result ≡ exposes_in V c.args.rows.now y c.args.id) c.is_in.ensures
