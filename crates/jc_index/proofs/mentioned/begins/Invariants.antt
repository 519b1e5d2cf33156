use Rattle.std.proofs.Common.{◌≡◌, false, take}
use Rattle.std.specs.Prelude.{nat_eq}
use Rattle.std.specs.List.{list_any, starts_with}
use Rattle.jc_facts.specs.world.World.{classes}
use Rattle.jc_facts.specs.world.Mentioned.{mentions}
use Rattle.jc_index.proofs.mentioned.begins.Given as goal

abbrev pub invariant-loop-place : goal.invariant-loop-place
invariant-loop-place l = list_any (λ c. list_any (λ x. starts_with nat_eq x l.front) (mentions c)) (take l.place (classes l.side)) ≡ false
