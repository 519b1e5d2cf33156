use Rattle.std.proofs.Common.{◌≡◌, ◌<◌, length, map, take}
use Rattle.std.specs.List.{All}
use Rattle.jc_facts.specs.world.World.{classes}
use Rattle.jc_index.specs.Ids.{name_at, name_in}
use Rattle.jc_loading.proofs.platform.places_of.Given as goal

abbrev pub invariant-loop-id : goal.invariant-loop-id
invariant-loop-id l = All (λ at. at < length (classes l.index)) l.places.items × (map (name_in (classes l.index)) l.places.items ≡ map (name_at l.index) (take l.id-index l.ids))
