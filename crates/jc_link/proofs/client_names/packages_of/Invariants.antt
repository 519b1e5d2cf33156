use Rattle.std.proofs.Common.{◌≡◌, take, map}
use Rattle.jc_facts.specs.Names.{package_name}
use Rattle.jc_link.proofs.client_names.packages_of.Given as goal

abbrev pub invariant-loop-client : goal.invariant-loop-client
invariant-loop-client l = l.list.items ≡ map (λ c. package_name c.facts.name) (take l.client-index l.clients)
