use Rattle.std.proofs.Common.{◌≡◌, map, take}
use Rattle.jc_index.specs.steps.PlacesAbove.{places_above}
use Rattle.jc_index.proofs.platform_list.all_places_above.Given as goal

abbrev pub invariant-loop-class : goal.invariant-loop-class
invariant-loop-class l = l.rows.items ≡ map (places_above l.list) (take l.class-index l.classes)
