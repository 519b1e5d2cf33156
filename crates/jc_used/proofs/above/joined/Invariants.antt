use Rattle.std.proofs.Common.{◌≡◌, ◌++◌, map, drop}
use Rattle.jc_used.specs.Above.{with_own_interfaces}
use Rattle.jc_used.proofs.above.joined.Given as goal

abbrev pub invariant-loop-class : goal.invariant-loop-class
invariant-loop-class l = map (λ c. c.now) l.all.items ++ with_own_interfaces l.clients (map (λ c. c.now) (drop l.class-index l.classes)) ≡ with_own_interfaces l.clients (map (λ c. c.now) l.classes)
