use Rattle.std.proofs.Common.{ap, ◌∙◌}
use Rattle.jc_sides.specs.SharedOf.{name_of}
use Rattle.jc_exposed.specs.Rows.{exposes_in}
use Rattle.jc_exposed.proofs.exposed.is_exposed_to.Goals as goal

pub returns : goal.returns
returns c =
    c.is_seen_by.ensures ∙ ap (λ rows. exposes_in c.args.sides.now.old rows (name_of c.args.seat.now) c.args.id) c.as_slice.ensures.value
    ∙ c.requires.exposed.rows.exact (name_of c.args.seat.now) c.args.id c.requires.id c.requires.wanted c.requires.hidden
