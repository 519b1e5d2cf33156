use Rattle.std.proofs.Common.{◌≡◌, map, take}
use Rattle.jc_index.proofs.order.sorted.Given as goal

abbrev pub invariant-loop-place : goal.invariant-loop-place
invariant-loop-place l = l.order.items ≡ map (λ p. p.1) (take l.place-index l.place-items)
