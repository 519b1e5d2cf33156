use Rattle.std.proofs.Common.{take}
use Rattle.std.specs.List.{All}
use Rattle.jc_facts.specs.client.Valid.{IsValidClient}
use Rattle.jc_link.proofs.plain.are_valid.Given as goal

abbrev pub invariant-loop-client : goal.invariant-loop-client
invariant-loop-client l = All IsValidClient (take l.client-index l.clients)
