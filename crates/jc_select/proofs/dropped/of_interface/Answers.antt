use Rattle.std.proofs.Common.{ap, ◌∙◌}
use Rattle.jc_facts.proofs.World.{found_name}
use Rattle.jc_sides.specs.SidesOf.{SidesOf}
use Rattle.jc_index.specs.Ids.{name_at}
use Rattle.jc_select.proofs.DroppedRows.{listed}
use Rattle.jc_select.proofs.dropped.of_interface.Goals as goal

pub returns : goal.returns
returns c =
    listed c.args.sides.now (name_at c.args.sides.now.old c.args.class) (name_at c.args.sides.now.old c.args.of) c.in_ok-copy.field-0 c.in_ok-copy-2.field-0 c.requires.drops
    (c.in_ok-copy.ensures ∙ found_name c.sides.inside.old.now (name_at c.sides.inside.old.now c.args.class) c.facts.result.now c.facts.ensures ∙ ap (λ (s : SidesOf). name_at s.old c.args.class) c.sides.view_is)
    (c.in_ok-copy-2.ensures ∙ found_name c.sides.inside.old.now (name_at c.sides.inside.old.now c.args.of) c.facts-2.result.now c.facts-2.ensures ∙ ap (λ (s : SidesOf). name_at s.old c.args.of) c.sides.view_is)
