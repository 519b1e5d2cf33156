use Rattle.std.proofs.Common.{◌≡◌, map, drop}
use Rattle.std.specs.List.{list_any}
use Rattle.jc_used.specs.Explains.{overrides_by}
use Rattle.jc_used.proofs.loading.any_overrides.Given as goal

abbrev pub invariant-loop-class : goal.invariant-loop-class
invariant-loop-class l = list_any (overrides_by l.key) (map (λ c. c.now) (drop l.class-index l.classes)) ≡ list_any (overrides_by l.key) (map (λ c. c.now) l.classes)
