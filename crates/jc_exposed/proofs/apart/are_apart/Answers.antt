use Rattle.std.proofs.Common.{◌∙◌}
use Rattle.jc_sides.specs.SidesFields.{worlds}
use Rattle.jc_exposed.proofs.ApartSeats.{apart_is}
use Rattle.jc_exposed.proofs.apart.are_apart.Goals as goal

pub returns : goal.returns
returns c = c.permit_two.ensures ∙ apart_is (worlds c.sides.inside) c.args.sides.now c.sides.view_is c.args.seat c.args.other c.facts.result.now c.facts-2.result.now c.facts.ensures c.facts-2.ensures
