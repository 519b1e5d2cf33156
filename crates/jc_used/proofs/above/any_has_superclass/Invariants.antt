use Rattle.std.proofs.Common.{◌≡◌, map, drop}
use Rattle.jc_used.specs.Explains.{extends_any}
use Rattle.jc_used.proofs.above.any_has_superclass.Given as goal

abbrev pub invariant-loop-class : goal.invariant-loop-class
invariant-loop-class l = extends_any (map (λ c. c.now) (drop l.class-index l.classes)) l.name ≡ extends_any (map (λ c. c.now) l.classes) l.name
