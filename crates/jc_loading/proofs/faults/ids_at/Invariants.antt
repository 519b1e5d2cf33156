use Rattle.std.proofs.Common.{◌≡◌, ◌<◌, map, take}
use Rattle.std.specs.List.{All}
use Rattle.jc_facts.specs.world.World.{classes, size}
use Rattle.jc_index.specs.Ids.{name_at, name_in}
use Rattle.jc_loading.proofs.faults.ids_at.Given as goal

abbrev pub invariant-loop-place : goal.invariant-loop-place
invariant-loop-place l = All (λ n. n < size l.index) l.ids.items × (map (name_at l.index) l.ids.items ≡ map (name_in (classes l.index)) (take l.place-index l.places))
