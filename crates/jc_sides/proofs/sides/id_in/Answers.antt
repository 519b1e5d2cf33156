use Rattle.std.proofs.Common.{sym, ◌∙◌, ap, length, nat_lt}
use Rattle.jc_facts.proofs.World.{found_name}
use Rattle.jc_facts.specs.world.World.{World}
use Rattle.jc_index.specs.Ids.{name_at, id_of}
use Rattle.jc_sides.proofs.Across.{number-across}
use Rattle.jc_sides.proofs.sides.id_in.Goals as goal

pub returns-then-in_platform : goal.returns-then-in_platform
returns-then-in_platform c =
    number-across c.args.old.now c.args.new.now c.requires.platform c.place-place.result
    (ap (λ (W : World). nat_lt c.place-place.result (length W.platform)) (sym c.side.ensures) ∙ sym c.in_platform.ensures ∙ c.if-in_platform.true) c.args.id c.id_at.result c.count-classes.ensures.side.differ c.place-place.ensures.named c.id_at.ensures.of_table
    c.id_at.ensures.named

pub returns-else-in_platform : goal.returns-else-in_platform
returns-else-in_platform c =
    c.get.ensures.value ∙ ap (id_of c.args.new.now) (c.as_bytes.ensures ∙ found_name c.args.old.now (name_at c.args.old.now c.args.id) c.facts.result.now c.facts.ensures)
