use Rattle.std.proofs.Common.{◌≡◌, map, drop}
use Rattle.std.specs.List.{list_any}
use Rattle.jc_used.specs.Explains.{is_shut_out}
use Rattle.jc_used.proofs.loading.is_any_shut_out.Given as goal

abbrev pub invariant-loop-class : goal.invariant-loop-class
invariant-loop-class l = list_any (is_shut_out l.line) (map (λ c. c.now) (drop l.class-index l.classes)) ≡ list_any (is_shut_out l.line) (map (λ c. c.now) l.classes)
