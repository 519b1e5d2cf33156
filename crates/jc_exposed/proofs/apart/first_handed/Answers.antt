use Rattle.std.proofs.Common.{map, ◌∙◌}
use Rattle.jc_sides.specs.SharedOf.{name_of}
use Rattle.jc_exposed.specs.Apart.{hands_on}
use Rattle.jc_exposed.proofs.ApartSeats.{handing_is, no_names, no_others, only_handing}
use Rattle.jc_exposed.proofs.apart.first_handed.Goals as goal

pub returns-then-is_empty : goal.returns-then-is_empty
returns-then-is_empty c =
    no_others c.args.sides.now c.args.from c.args.to (map name_of c.seats_from-others.result.now) c.seats_from-others.ensures.first c.requires.seats.sides.old_side.differ
    (no_names c.seats_from-others.result.now c.is_empty.result c.if-is_empty.true c.is_empty.ensures)

pub returns : goal.returns
returns c =
    let s = c.args.sides.now in
    let others = map name_of c.seats_from-others.result.now in
    c.first_handing.ensures ∙ c.seats_from-first.ensures.first (hands_on s c.args.from c.args.to others) (λ a h. only_handing s c.args.from c.args.to others a h)
    ∙ handing_is s c.args.from c.args.to others c.seats_from-others.ensures.first
