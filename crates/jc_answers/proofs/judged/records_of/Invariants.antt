use Rattle.std.proofs.Common.{◌≡◌, ◌++◌, drop}
use Rattle.jc_facts.specs.client.Valid.{facts_of}
use Rattle.jc_answers.proofs.judged.records_of.Given as goal

abbrev pub invariant-loop-client : goal.invariant-loop-client
invariant-loop-client l = l.records.items ++ facts_of (drop l.client-index l.clients) ≡ facts_of l.clients
