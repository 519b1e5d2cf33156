use Rattle.std.proofs.Common.{◌≡◌, map, take}
use Rattle.jc_facts.specs.world.Search.{supers}
use Rattle.jc_index.specs.Ids.{place_of}
use Rattle.jc_index.specs.steps.Order.{names_at}
use Rattle.jc_index.proofs.platform_list.places_above.Given as goal

abbrev pub invariant-loop-at : goal.invariant-loop-at
invariant-loop-at l = l.places.items ≡ map (place_of (names_at l.list)) (take l.at (supers l.class))
