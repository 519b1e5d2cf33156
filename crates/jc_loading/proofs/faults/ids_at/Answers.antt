use Rattle.std.proofs.Common.{map, ◌∙◌, ap, arith}
use Rattle.std.proofs.lemmas.List.{take_all}
use Rattle.jc_facts.specs.world.World.{classes}
use Rattle.jc_index.specs.Ids.{name_in}
use Rattle.jc_loading.proofs.Loads.{numbers-in_order}
use Rattle.jc_loading.proofs.faults.ids_at.Goals as goal

pub returns-clause-order : goal.returns-clause-order
returns-clause-order c =
    numbers-in_order c.args.index.now c.args.places.now c.loop-place.ids.items c.count.ensures.side.differ c.requires c.loop-place.invariant.0
    (c.loop-place.invariant.1 ∙ ap (map (name_in (classes c.args.index.now))) (take_all c.loop-place.place-index c.args.places.now (omega arith)))
