use Rattle.std.proofs.Common.{◌≡◌, map, drop}
use Rattle.jc_used.specs.Explains.{implements_any}
use Rattle.jc_used.proofs.above.any_has_interface.Given as goal

abbrev pub invariant-loop-class : goal.invariant-loop-class
invariant-loop-class l = implements_any (map (λ c. c.now) (drop l.class-index l.classes)) l.name ≡ implements_any (map (λ c. c.now) l.classes) l.name
