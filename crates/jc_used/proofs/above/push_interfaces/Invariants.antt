use Rattle.std.proofs.Common.{◌≡◌, ◌++◌, map, drop}
use Rattle.jc_used.specs.Above.{clients_among}
use Rattle.jc_used.proofs.above.push_interfaces.Given as goal

abbrev pub invariant-loop-name : goal.invariant-loop-name
invariant-loop-name l = map (λ c. c.now) l.out.items ++ clients_among l.clients (drop l.name-index l.class.interfaces) ≡ map (λ c. c.now) l.fn.out.items ++ clients_among l.clients l.class.interfaces
