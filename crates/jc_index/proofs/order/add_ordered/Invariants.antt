use Rattle.std.proofs.Common.{◌≡◌, ◌++◌, map, take}
use Rattle.jc_facts.specs.world.World.{classes}
use Rattle.jc_index.specs.steps.Order.{place_after}
use Rattle.jc_index.proofs.order.add_ordered.Given as goal

abbrev pub invariant-loop-n : goal.invariant-loop-n
invariant-loop-n l = l.places.items ≡ l.initial.places.items ++ map (place_after (classes l.side) l.before) (take l.n l.order)
