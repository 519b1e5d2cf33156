use Rattle.std.proofs.Common.{◌≡◌, ◌++◌, map}
use Rattle.jc_facts.specs.client.Valid.{facts_of}
use Rattle.jc_link.specs.steps.Asked.{asked_of}
use Rattle.jc_link.proofs.asked.parted.Given as goal

abbrev pub invariant-loop-client : goal.invariant-loop-client
invariant-loop-client l =
    (l.records.items ++ facts_of l.client-iterator.rest.items ≡ l.fn.release.items ++ facts_of l.fn.clients.items)
    × (l.asked.items ++ map asked_of l.client-iterator.rest.items ≡ map asked_of l.fn.clients.items)
